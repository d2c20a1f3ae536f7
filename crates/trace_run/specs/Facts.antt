-- What follows from the statement on a run, for a source that tells its bytes: each fact in a line.
use Rattle.std.specs.Prelude.{◌≡◌, ◌≢◌, ◌⊎◌, ℕ, List, IsTrue, Some}
use Rattle.std.specs.Io.KnownBytes.{Appends, IsAtEnd}
use Rattle.streams.specs.Causes.{Rose}
use Rattle.streams.specs.Sinks.{AppendsPart}
use Rattle.heap_base.specs.declared.status.Status.{Status}
use Rattle.heap_base.specs.declared.status.Status.TheVariants.{Clean, Violated, TraceFault, ReadFault, WriteFault, NoMemory, Usage}
use Rattle.trace_reader.specs.Meaning.{Item}
use Rattle.trace_run.specs.Program.{Report}
use Rattle.trace_run.specs.Outcome.{Outside, TraceReport, reading, trace_report, of_bytes, IsCutShort, EndsAs}

-- The source is at its end, or the run halted; exactly this report was appended, and the status is its own.
pub record IsWholeReport (report : Report) (old new : Outside) (answer : Status) : Type 0 where
  pub at_end : IsAtEnd new.source.bytes ⊎ IsTrue report.is_halted
  pub appended : Appends old.sink.bytes new.sink.bytes report.text
  pub status : answer ≡ report.status

-- What the status says: the trace was read to its end, or the run halted, and the report is whole; a line is refused, and exactly the report
-- was appended; a refused line is never hidden; a failed read or write has its cause; what was appended is a beginning of
-- the report; the words were taken; and where no line is refused and no count of faults rose, only running out of memory keeps
-- the run from its end. The report is that on the bytes of the trace.
pub record HasFacts (report : Report) (old new : Outside) (answer : Status) : Type 0 where
  pub whole : (answer ≡ Clean) ⊎ (answer ≡ Violated) → IsWholeReport report old new answer
  pub trace_fault : answer ≡ TraceFault → report.status ≡ TraceFault
  pub fault_report : answer ≡ TraceFault → Appends old.sink.bytes new.sink.bytes report.text
  pub hides_no_refusal : report.status ≡ TraceFault → (answer ≢ Clean) × (answer ≢ Violated)
  pub read_fault : answer ≡ ReadFault → Rose old.source.faults new.source.faults
  pub write_fault : answer ≡ WriteFault → Rose old.sink.faults new.sink.faults
  pub part : (answer ≡ WriteFault) ⊎ (answer ≡ NoMemory) → AppendsPart old.sink.bytes new.sink.bytes report.text
  pub taken : answer ≢ Usage
  pub complete : report.status ≢ TraceFault → ¬ Rose old.source.faults new.source.faults → ¬ Rose old.sink.faults new.sink.faults →
      (answer ≡ Clean) ⊎ (answer ≡ Violated) ⊎ (answer ≡ NoMemory)

-- Each of these follows, whatever the status, and where a read failed, how far the run came.
abbrev pub FactsFollow : Type 0
FactsFollow =
    (report : TraceReport) (old new : Outside) (answer : Status) (bytes : List ℕ) → old.source.bytes ≡ Some bytes →
    EndsAs report old new answer → HasFacts (of_bytes report bytes) old new answer × (answer ≡ ReadFault → IsCutShort report old new)

-- no read of a source that counts no faults is said to have failed
abbrev pub NoReadFails : Type 0
NoReadFails =
    (report : TraceReport) (old new : Outside) (bytes left : List ℕ) → ¬ EndsAs report (reading bytes old) (reading left new) ReadFault

-- what stands of a report stands of one that is equal on every trace
abbrev pub EqualReports : Type 0
EqualReports =
    (limit : ℕ) (of by : List Item → Report) (old new : Outside) (answer : Status) → ((items : List Item) → of items ≡ by items) →
    EndsAs (trace_report limit of) old new answer → EndsAs (trace_report limit by) old new answer
