-- From what the audit ensures, case by case, to what stands by what its command line asks for.
use Rattle.std.proofs.Common.{◌≡◌, ℕ, List, [], Option, None, Some, refl, subst}
use Rattle.heap_base.specs.Limits.{large_limits}
use Rattle.heap_base.specs.declared.status.Status.{Status}
use Rattle.settings.specs.declared.settings.Settings.{Settings}
use Rattle.trace_run.specs.Outcome.{Outside}
use Rattle.audit_run.specs.Asked.{AuditsLargeAsAsked}
use Rattle.audit_run.specs.Facts.{FactsFollow}
use Rattle.audit_run.specs.InMemory.{WritesReport, defined_report}
use Rattle.audit_run.specs.Outcome.{EndsAs, RefusesLargeWords, rules_under}
use Rattle.audit_run.proofs.Written.{written}
use Rattle.console.specs.Numbers.{HasStatus}

pub as_asked : (asked : Option Settings) (old new : Outside) (answer : Status)
    → ((s : Settings) → asked ≡ Some s → EndsAs (rules_under large_limits s) old new answer)
    → (asked ≡ None → (new.source ≡ old.source) × RefusesLargeWords old new answer) → AuditsLargeAsAsked asked old new answer
as_asked None old new answer read refused = refused refl
as_asked (Some s) old new answer read refused = read s refl

-- a trace in memory was audited as asked
pub written_as_asked : (asked : Option Settings) (s : Settings) (old new : Outside) (number : ℕ) (bytes text : List ℕ) → FactsFollow → asked ≡ Some s
    → old.source.bytes ≡ Some bytes → old.sink.bytes ≡ Some [] → new.sink.bytes ≡ Some text → HasStatus number (AuditsLargeAsAsked asked old new)
    → WritesReport (defined_report (rules_under large_limits s) bytes) text number
written_as_asked asked s old new number bytes text facts is_asked holds empty full ended =
    let by_rules : EndsAs (rules_under large_limits s) old new ended.0 = subst (λ o. AuditsLargeAsAsked o old new ended.0) is_asked ended.2 in
    written (rules_under large_limits s) old new ended.0 number bytes text facts holds empty full ended.1 by_rules
