-- The report depends on no number of workers.
use Rattle.std.proofs.Common.{◌≡◌, ◌≢◌, ℕ, List, length, Option, None, Some, cond, Bool, true, false, codes, refl, sym, ap, ◌∙◌, subst, arith}
use Rattle.std.proofs.lemmas.Option.{none-some, same_Some}
use Rattle.std.specs.Prelude.{option_map, option_and_then}
use Rattle.heap_base.specs.declared.limits.TheConstants.{USUAL_PATHS}
use Rattle.graph_meaning.specs.declared.reaction.React.{React}
use Rattle.graph_meaning.specs.declared.reaction.React.TheVariants.{Report}
use Rattle.settings.specs.declared.numbers.TheConstants.{MOST_PATHS}
use Rattle.settings.specs.declared.settings.Settings.{Settings}
use Rattle.settings.specs.Command.{is_well_formed, option_value}
use Rattle.settings.specs.Numbers.{number_by}
use Rattle.settings.specs.Settings.{OptionValues, option_setting, react_by, workers_asked, paths_asked, react_asked, plan_asked, settings_from, settings_by}
use Rattle.report.specs.Run.{RunRules}
use Rattle.trace_run.specs.Audits.{rules_by}
use Rattle.trace_run.specs.Outcome.{TraceReport, of_bytes, EndsAs}
use Rattle.trace_run.proofs.Causes.{facts_follow}
use Rattle.audit_run.specs.Outcome as audit
use Rattle.audit_run.specs.Outcome.{rules_of, report_by_rules}
use Rattle.resident_crew.specs.Outcome.{rules}
use Rattle.resident_crew.specs.Agreement.{AuditRun, IsWholeRun, Agree, DifferInWorkers, HasWorkersAlone, AuditsAgree, ResidentAuditsAgree, AuditAndResidentAgree}

-- runs that report the same agree
agree : (report : TraceReport) (bytes : List ℕ) (a b : AuditRun) → EndsAs report a.old a.new a.status → EndsAs report b.old b.new b.status →
    IsWholeRun bytes a → IsWholeRun bytes b → Agree a b
agree report bytes a b one other first second =
    let w = (facts_follow report a.old a.new a.status bytes first.trace one).0.whole first.whole in
    let v = (facts_follow report b.old b.new b.status bytes second.trace other).0.whole second.whole in
    record { text = (of_bytes report bytes).text; first = w.appended; second = v.appended; status = w.status ∙ sym v.status }

-- ---- what a command line asks for beside workers

-- what four values that may be missing make is made of those that are there
record Parts {X Z : Type 0} (paths : Option ℕ) (react : Option React) (make : ℕ → ℕ → React → X → Z) (made : Z) : Type 0 where
  w : ℕ
  p : ℕ
  r : React
  g : X
  has_paths : paths ≡ Some p
  has_react : react ≡ Some r
  is_made : make w p r g ≡ made

parts : {X Z : Type 0} (workers paths : Option ℕ) (react : Option React) (plan : Option X) (make : ℕ → ℕ → React → X → Z) (made : Z) →
    option_and_then (λ w. option_and_then (λ p. option_and_then (λ r. option_map (λ g. make w p r g) plan) react) paths) workers ≡ Some made → Parts paths react make made
parts None paths react plan make made is = absurd (none-some made is)
parts (Some w) None react plan make made is = absurd (none-some made is)
parts (Some w) (Some p) None plan make made is = absurd (none-some made is)
parts (Some w) (Some p) (Some r) None make made is = absurd (none-some made is)
parts (Some w) (Some p) (Some r) (Some g) make made is =
    record { w = w; p = p; r = r; g = g; has_paths = refl; has_react = refl; is_made = same_Some (make w p r g) made is }

-- settings have the paths and the reaction that are asked for
asked : (given : OptionValues) (s : Settings) → settings_from given ≡ Some s → (paths_asked given ≡ Some s.paths) × (react_asked given ≡ Some s.react)
unfolding settings_from
asked given s is =
    let found =
    parts (workers_asked given) (paths_asked given) (react_asked given) (plan_asked given) (λ w p r g. record { workers = w; paths = p; react = r; plan = g }) s is in
    (found.has_paths ∙ ap (λ (x : Settings). Some x.paths) found.is_made, found.has_react ∙ ap (λ (x : Settings). Some x.react) found.is_made)

-- the values that a command line gives the options
abbrev given_by : List (List ℕ) → OptionValues
given_by words = λ name. option_value name words

taken : (words : List (List ℕ)) (s : Settings) → settings_by words ≡ Some s → (paths_asked (given_by words) ≡ Some s.paths) × (react_asked (given_by words) ≡ Some s.react)
taken words s is = asked (given_by words) s (well (is_well_formed words) is)
  where
    well : (b : Bool) → cond b (settings_from (given_by words)) None ≡ Some s → settings_from (given_by words) ≡ Some s
    well true is = is
    well false is = absurd (none-some s is)

no_paths : codes "paths" ≢ codes "workers"
no_paths is = omega (arith, ap length is)

no_react : codes "react" ≢ codes "workers"
no_react is = omega (arith, ap length is)

same_rules : (words others : List (List ℕ)) (s t : Settings) → DifferInWorkers words others → settings_by words ≡ Some s → settings_by others ≡ Some t → rules_of s ≡ rules_of t
same_rules words others s t differ one other =
    let a = taken words s one in
    let b = taken others t other in
    let paths : s.paths ≡ t.paths = same_Some s.paths t.paths (sym a.0 ∙ ap (option_setting USUAL_PATHS (number_by 0 MOST_PATHS)) (differ (codes "paths") no_paths) ∙ b.0) in
    let react : s.react ≡ t.react = same_Some s.react t.react (sym a.1 ∙ ap (option_setting Report react_by) (differ (codes "react") no_react) ∙ b.1) in
    λ i. rules_by (paths i) (react i)

usual_rules : (words : List (List ℕ)) (s : Settings) → HasWorkersAlone words → settings_by words ≡ Some s → rules_of s ≡ rules
usual_rules words s alone is =
    let a = taken words s is in
    let paths : s.paths ≡ USUAL_PATHS = same_Some s.paths USUAL_PATHS (sym a.0 ∙ ap (option_setting USUAL_PATHS (number_by 0 MOST_PATHS)) (alone (codes "paths") no_paths)) in
    let react : s.react ≡ Report = same_Some s.react Report (sym a.1 ∙ ap (option_setting Report react_by) (alone (codes "react") no_react)) in
    λ i. rules_by (paths i) (react i)

-- ---- the laws

pub audits_agree : AuditsAgree
audits_agree words others bytes a b differ one other first second =
    let same = same_rules words others one.0 other.0 differ one.1 other.1 in
    agree (report_by_rules (rules_of other.0)) bytes a b (subst (λ (r : RunRules). audit.EndsAs r a.old a.new a.status) same one.2) other.2 first second

pub resident_audits_agree : ResidentAuditsAgree
resident_audits_agree bytes a b one other first second = agree (report_by_rules rules) bytes a b one other first second

pub audit_and_resident_agree : AuditAndResidentAgree
audit_and_resident_agree words bytes a b alone one other first second =
    let same = usual_rules words one.0 alone one.1 in
    agree (report_by_rules rules) bytes a b (subst (λ (r : RunRules). audit.EndsAs r a.old a.new a.status) same one.2) other first second
