-- From what the audit ensures, case by case, to what stands by what its command line asks for.
use Rattle.std.proofs.Common.{◌≡◌, ℕ, List, [], Option, None, Some, refl, subst}
use Rattle.heap_base.specs.declared.status.Status.{Status}
use Rattle.generator.specs.declared.plan.GenPlan.{GenPlan}
use Rattle.report.specs.Run.{RunRules}
use Rattle.settings.specs.declared.settings.Settings.{Settings}
use Rattle.trace_run.specs.Outcome.{Outside}
use Rattle.audit_run.specs.Asked.{AuditsAsAsked, AuditsBy}
use Rattle.audit_run.specs.Facts.{FactsFollow}
use Rattle.audit_run.specs.InMemory.{WritesReport, defined_report}
use Rattle.audit_run.specs.Outcome.{EndsAs, RefusesWords, rules_of}
use Rattle.audit_run.proofs.Written.{written}
use Rattle.console.specs.Numbers.{HasStatus}

-- the source was left unread, and the trace of this plan was audited
abbrev pub AuditsGenerated : RunRules → GenPlan → Outside → Outside → Status → Type 0
AuditsGenerated rules plan old new answer = AuditsBy rules (Some plan) old new answer

by_plan : (rules : RunRules) (plan : Option GenPlan) (old new : Outside) (answer : Status) → (plan ≡ None → EndsAs rules old new answer)
    → ((p : GenPlan) → plan ≡ Some p → AuditsGenerated rules p old new answer) → AuditsBy rules plan old new answer
by_plan rules None old new answer read generated = read refl
by_plan rules (Some p) old new answer read generated = generated p refl

pub as_asked : (asked : Option Settings) (old new : Outside) (answer : Status)
    → ((s : Settings) → asked ≡ Some s → s.plan ≡ None → EndsAs (rules_of s) old new answer)
    → ((s : Settings) (p : GenPlan) → asked ≡ Some s → s.plan ≡ Some p → AuditsGenerated (rules_of s) p old new answer)
    → (asked ≡ None → (new.source ≡ old.source) × RefusesWords old new answer) → AuditsAsAsked asked old new answer
as_asked None old new answer read generated refused = refused refl
as_asked (Some s) old new answer read generated refused = by_plan (rules_of s) s.plan old new answer (read s refl) (λ p. generated s p refl)

-- a trace in memory was audited as asked
pub written_as_asked : (asked : Option Settings) (s : Settings) (old new : Outside) (number : ℕ) (bytes text : List ℕ) → FactsFollow → asked ≡ Some s → s.plan ≡ None
    → old.source.bytes ≡ Some bytes → old.sink.bytes ≡ Some [] → new.sink.bytes ≡ Some text → HasStatus number (AuditsAsAsked asked old new)
    → WritesReport (defined_report (rules_of s) bytes) text number
written_as_asked asked s old new number bytes text facts is_asked is_read holds empty full ended =
    let by_settings : AuditsBy (rules_of s) s.plan old new ended.0 = subst (λ o. AuditsAsAsked o old new ended.0) is_asked ended.2 in
    let by_rules : AuditsBy (rules_of s) None old new ended.0 = subst (λ o. AuditsBy (rules_of s) o old new ended.0) is_read by_settings in
    written (rules_of s) old new ended.0 number bytes text facts holds empty full ended.1 by_rules
