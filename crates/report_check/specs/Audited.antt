-- What an audit appends beside what a check says of it.
use Rattle.std.specs.Prelude.{◌⊎◌, ◌≡◌, ◌≢◌, ℕ, ◌++◌, List, Some}
use Rattle.std.specs.Io.KnownBytes.{Appends}
use Rattle.heap_base.specs.declared.limits.TheConstants.{LONGEST_TRACE}
use Rattle.heap_base.specs.declared.status.Status.{Status}
use Rattle.heap_base.specs.declared.status.Status.TheVariants.{Clean, Violated}
use Rattle.graph_meaning.specs.declared.reaction.React.TheVariants.{Report}
use Rattle.trace_run.specs.Audits.{audit_report, rules_by}
use Rattle.trace_run.specs.Outcome.{EndsAs, Outside, trace_report}
use Rattle.report_check.specs.Checked.{IsChecked, World}

-- An audit of a trace of these bytes, by which so many paths of each collection are shown and violations are only reported, came to its end: what
-- an audit ensures holds of what was before and after it, and its status is 0 or 1.
pub record IsWholeAudit (paths : ℕ) (bytes : List ℕ) (old new : Outside) (status : Status) : Type 0 where
  pub trace : old.source.bytes ≡ Some bytes
  pub ends : EndsAs (trace_report LONGEST_TRACE (audit_report (rules_by paths Report))) old new status
  pub whole : (status ≡ Clean) ⊎ (status ≡ Violated)

-- A check of this text as the report on a trace of these bytes, by which so many paths are shown: what a check ensures holds of what was before
-- and after it.
pub record IsCheck (paths : ℕ) (bytes text : List ℕ) (old new : World) (answer : Status) : Type 0 where
  pub trace : old.trace.bytes ≡ Some bytes
  pub report : old.report.bytes ≡ Some text
  pub checked : IsChecked paths old new answer

-- What an audit appended is never called different.
abbrev pub AuditsPassChecks : Type 0
AuditsPassChecks =
    (paths : ℕ) (bytes text held : List ℕ) (old new : Outside) (status : Status) (before after : World) (answer : Status) →
    IsWholeAudit paths bytes old new status → old.sink.bytes ≡ Some held → new.sink.bytes ≡ Some (held ++ text) →
    IsCheck paths bytes text before after answer → answer ≢ Violated

-- What a check calls equal is what an audit appends.
abbrev pub EqualIsAppended : Type 0
EqualIsAppended =
    (paths : ℕ) (bytes text : List ℕ) (before after : World) (old new : Outside) (status : Status) → IsCheck paths bytes text before after Clean →
    IsWholeAudit paths bytes old new status → Appends old.sink.bytes new.sink.bytes text
