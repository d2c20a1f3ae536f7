-- What stands after an audit, by what its command line asks for.
use Rattle.std.specs.Prelude.{◌≡◌, ℕ, List, Option, None, Some}
use Rattle.heap_base.specs.Limits.{large_limits}
use Rattle.heap_base.specs.declared.status.Status.{Status}
use Rattle.generator.specs.declared.plan.GenPlan.{GenPlan}
use Rattle.generator.specs.Text.{gen_text}
use Rattle.report.specs.Run.{RunRules}
use Rattle.trace_run.specs.Outcome.{Outside, reading}
use Rattle.settings.specs.declared.settings.Settings.{Settings}
use Rattle.audit_run.specs.Outcome.{EndsAs, RefusesLargeWords, RefusesWords, rules_of, rules_under}

-- After an audit by these rules: of the trace that the source has left, or of a generated one, for which the source is left unread.
abbrev pub AuditsBy : RunRules → Option GenPlan → Outside → Outside → Status → Type 0
AuditsBy rules None old new answer = EndsAs rules old new answer
AuditsBy rules (Some plan) old new answer =
    (new.source ≡ old.source) × ((left : List ℕ) × EndsAs rules (reading (gen_text plan.number plan.size) old) (reading left new) answer)

-- After the audit that these settings ask for. Where the command line is refused, and there are none, the source is left unread, and the
-- usage line is written.
abbrev pub AuditsAsAsked : Option Settings → Outside → Outside → Status → Type 0
AuditsAsAsked None old new answer = (new.source ≡ old.source) × RefusesWords old new answer
AuditsAsAsked (Some s) old new answer = AuditsBy (rules_of s) s.plan old new answer

-- After the audit under the largest limits that these settings ask for. Where the command line is refused, and there are none, the source is left
-- unread, and the usage line is written.
abbrev pub AuditsLargeAsAsked : Option Settings → Outside → Outside → Status → Type 0
AuditsLargeAsAsked None old new answer = (new.source ≡ old.source) × RefusesLargeWords old new answer
AuditsLargeAsAsked (Some s) old new answer = EndsAs (rules_under large_limits s) old new answer
