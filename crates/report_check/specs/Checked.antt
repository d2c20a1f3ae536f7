-- What stands when a check has returned, by the status that it answers.
use Rattle.std.specs.Prelude.{◌⊎◌, ◌≡◌, ℕ, List, codes}
use Rattle.std.specs.Io.KnownBytes.{Appends, Keeps}
use Rattle.streams.specs.Causes.{Rose}
use Rattle.streams.specs.Sinks.{AppendsPart}
use Rattle.streams.specs.Streams.{Stream}
use Rattle.heap_base.specs.declared.status.Status.{Status}
use Rattle.heap_base.specs.declared.status.Status.TheVariants.{Clean, Violated, TraceFault, ReadFault, WriteFault, NoMemory, Usage}
use Rattle.report_check.specs.declared.compared.Compared.{Compared}
use Rattle.report_check.specs.declared.compared.Compared.TheVariants.{Equal, Differs}
use Rattle.report_check.specs.Reports.{TellsOfReports, comparison_line}

-- What can be seen of the trace, of the report and of the sink at a moment.
pub record World : Type 0 where
  pub trace : Stream
  pub report : Stream
  pub sink : Stream

abbrev pub world_of : Stream → Stream → Stream → World
world_of trace report sink = record { trace = trace; report = report; sink = sink }

-- what is written where the words of the command line are refused
abbrev pub usage_line : List ℕ
usage_line = codes "usage: gccheck TRACE REPORT [P]\n"

-- the report compares so with the one that is defined, and exactly the line that says so was appended
abbrev pub SaysHow : ℕ → World → World → Compared → Type 0
SaysHow paths old new compared =
    TellsOfReports paths old.trace.bytes old.report.bytes compared × Appends old.sink.bytes new.sink.bytes (comparison_line compared)

-- What stands after a check by which so many paths are shown. A refused line of the trace is no fault of the check. A failed read
-- or write is answered only where the count of faults of an object that it speaks of rose in the call.
abbrev pub IsChecked : ℕ → World → World → Status → Type 0
IsChecked paths old new Clean = SaysHow paths old new Equal
IsChecked paths old new Violated = (n : ℕ) × SaysHow paths old new (Differs n)
IsChecked paths old new TraceFault = ⊥
IsChecked paths old new ReadFault =
    (Rose old.trace.faults new.trace.faults ⊎ Rose old.report.faults new.report.faults) × Keeps old.sink.bytes new.sink.bytes
IsChecked paths old new WriteFault =
    Rose old.sink.faults new.sink.faults
    × ((compared : Compared) × TellsOfReports paths old.trace.bytes old.report.bytes compared × AppendsPart old.sink.bytes new.sink.bytes (comparison_line compared))
IsChecked paths old new NoMemory = Keeps old.sink.bytes new.sink.bytes
IsChecked paths old new Usage = ⊥

-- Where no count of faults rose, the check comes to an end, unless memory runs out.
abbrev pub ChecksEnd : Type 0
ChecksEnd =
    (paths : ℕ) (old new : World) (answer : Status) → IsChecked paths old new answer → ¬ Rose old.trace.faults new.trace.faults →
    ¬ Rose old.report.faults new.report.faults → ¬ Rose old.sink.faults new.sink.faults →
    (answer ≡ Clean) ⊎ (answer ≡ Violated) ⊎ (answer ≡ NoMemory)
