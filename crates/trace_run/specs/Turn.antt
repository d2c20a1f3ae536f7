-- What one line of a trace does to a run that is under way, for the proof of the whole run.
use Rattle.std.specs.Prelude.{◌≡◌, ℕ, ◌+◌, List, Bool, false, ◌||◌, IsTrue}
use Rattle.std.specs.Io.KnownBytes.{Appends}
use Rattle.streams.specs.Causes.{Rose}
use Rattle.streams.specs.Sinks.{AppendsPart}
use Rattle.heap_base.specs.declared.status.Status.{Status}
use Rattle.heap_base.specs.declared.status.Status.TheVariants.{Clean, Violated, TraceFault, ReadFault, WriteFault, NoMemory, Usage}
use Rattle.report.specs.declared.writing.WriteError.{WriteError}
use Rattle.report.specs.declared.writing.WriteError.TheVariants.{WriteFailed, OutOfMemory}
use Rattle.trace_run.specs.Outcome.{SinkChange}
use Rattle.trace_run.specs.Program.{Effect, goes_on, RunResult, Report, report_on, by_effect}
use Rattle.trace_run.specs.declared.turn.Flow.{Flow}
use Rattle.trace_run.specs.declared.turn.Flow.TheVariants.{GoesOn, Ends}

-- how a run ends where a text was not written whole
abbrev pub status_of_error : WriteError → Status
status_of_error WriteFailed = WriteFault
status_of_error OutOfMemory = NoMemory

-- The run ends with this status, and appended what there was to report, or a part of it. It is Clean or Violated only
-- where the trace is at its end, or the run halts.
abbrev pub EndsRun : Bool → SinkChange → Report → Status → Type 0
EndsRun at_end sink d Clean = IsTrue (at_end || d.is_halted) × (d.status ≡ Clean) × Appends sink.old.bytes sink.new.bytes d.text
EndsRun at_end sink d Violated = IsTrue (at_end || d.is_halted) × (d.status ≡ Violated) × Appends sink.old.bytes sink.new.bytes d.text
EndsRun at_end sink d TraceFault = (d.status ≡ TraceFault) × Appends sink.old.bytes sink.new.bytes d.text
EndsRun at_end sink d WriteFault = Rose sink.old.faults sink.new.faults × AppendsPart sink.old.bytes sink.new.bytes d.text
EndsRun at_end sink d NoMemory = AppendsPart sink.old.bytes sink.new.bytes d.text
EndsRun at_end sink d ReadFault = ⊥
EndsRun at_end sink d Usage = ⊥

-- A line behind so many others: what it leads to, and the state after it, where the run goes on.
pub record LineEffect (State : Type 0) : Type 0 where
  pub effect : Effect State
  pub lines : ℕ
  pub after : State

abbrev pub line_effect : {State : Type 0} → Effect State → ℕ → State → LineEffect State
line_effect effect lines after = record { effect = effect; lines = lines; after = after }

-- What a line does to a run: the run goes on from the state after it, and the text that is due was appended; or it ends, whatever was to come.
abbrev pub TakesLine : {State : Type 0} → LineEffect State → SinkChange → Flow → Type 0
TakesLine line sink GoesOn = (text : List ℕ) × (line.effect ≡ goes_on text line.after) × Appends sink.old.bytes sink.new.bytes text
TakesLine {State} line sink (Ends status) =
    (on : State → RunResult) → EndsRun false sink (report_on (by_effect (line.lines + 1) line.effect on)) status
