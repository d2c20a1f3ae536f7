-- What follows from the statement on an audit, for a source that tells its bytes.
use Rattle.std.specs.Prelude.{◌≡◌, ℕ, List, None, Some}
use Rattle.heap_base.specs.declared.status.Status.{Status}
use Rattle.heap_base.specs.declared.status.Status.TheVariants.{ReadFault}
use Rattle.heap_base.specs.Limits.{usual_limits}
use Rattle.report.specs.Run.{RunRules}
use Rattle.settings.specs.declared.settings.Settings.{Settings}
use Rattle.settings.specs.Settings.{large_settings_by, settings_by}
use Rattle.trace_run.specs.Outcome.{Outside, reading, of_bytes, IsCutShort}
use Rattle.trace_run.specs.Facts.{HasFacts}
use Rattle.audit_run.specs.Outcome.{EndsAs, report_by_rules, rules_of, rules_under}

-- Each fact of a run follows, whatever the status, and where a read failed, how far the run came.
abbrev pub FactsFollow : Type 0
FactsFollow =
    (rules : RunRules) (old new : Outside) (answer : Status) (bytes : List ℕ) → old.source.bytes ≡ Some bytes → EndsAs rules old new answer →
    HasFacts (of_bytes (report_by_rules rules) bytes) old new answer × (answer ≡ ReadFault → IsCutShort (report_by_rules rules) old new)

-- no read of a source that counts no faults is said to have failed
abbrev pub NoReadFails : Type 0
NoReadFails =
    (rules : RunRules) (old new : Outside) (bytes left : List ℕ) → ¬ EndsAs rules (reading bytes old) (reading left new) ReadFault

-- The words that gcheap takes ask gcaudit for the same, of the trace that the source has left; and under the usual limits the report by what
-- they ask for is the one that gcaudit gives.
abbrev pub UsualLimitsGiveTheSameReport : Type 0
UsualLimitsGiveTheSameReport =
    (words : List (List ℕ)) (s : Settings) → large_settings_by words ≡ Some s →
    (settings_by words ≡ Some s) × (s.plan ≡ None) × (report_by_rules (rules_under usual_limits s) ≡ report_by_rules (rules_of s))
