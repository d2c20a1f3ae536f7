-- What stands when a run over a trace has returned, by the status that it answers.
use Rattle.std.specs.Prelude.{◌≡◌, ◌⊎◌, ℕ, ◌+◌, ◌≤◌, List, length, IsTrue, Some, IfSome}
use Rattle.std.specs.Io.KnownBytes.{Appends, Consumes, Keeps}
use Rattle.streams.specs.Causes.{Rose}
use Rattle.streams.specs.Sinks.{AppendsPart}
use Rattle.streams.specs.Streams.{Stream}
use Rattle.heap_base.specs.declared.limits.TheConstants.{LONGEST_LINE}
use Rattle.heap_base.specs.declared.status.Status.{Status}
use Rattle.heap_base.specs.declared.status.Status.TheVariants.{Clean, Violated, TraceFault, ReadFault, WriteFault, NoMemory, Usage}
use Rattle.trace_reader.specs.Meaning.{Item}
use Rattle.trace_reader.specs.Items.{items_of}
use Rattle.trace_run.specs.Lines.{whole_lines}
use Rattle.trace_run.specs.Program.{Report}

-- What can be seen of the source and of the sink at a moment.
pub record Outside : Type 0 where
  pub source : Stream
  pub sink : Stream

abbrev pub outside_of : Stream → Stream → Outside
outside_of source sink = record { source = source; sink = sink }

-- the same sink, and a source that tells these bytes and of which no read has failed
abbrev pub reading : List ℕ → Outside → Outside
reading bytes o = record o { source = record { bytes = Some bytes; faults = 0 } }

-- What can be seen of a sink before and after.
pub record SinkChange : Type 0 where
  pub old : Stream
  pub new : Stream

abbrev pub sink_change : Stream → Stream → SinkChange
sink_change old new = record { old = old; new = new }

-- What a run is to report on a trace that may have so many bytes: the report on its items.
pub record TraceReport : Type 0 where
  pub limit : ℕ
  pub of_items : List Item → Report

abbrev pub trace_report : ℕ → (List Item → Report) → TraceReport
trace_report limit of_items = record { limit = limit; of_items = of_items }

-- the report on these bytes of a trace
abbrev pub of_bytes : TraceReport → List ℕ → Report
of_bytes report bytes = report.of_items (items_of report.limit bytes)

-- The bytes are a trace that the source may hold: all that it has left, where it tells them.
abbrev pub IsTrace : Outside → List ℕ → Type 0
IsTrace old bytes = IfSome old.source.bytes (λ left. left ≡ bytes)

-- The whole report on the trace was appended, and the status is the trace's. All bytes of it were read, or the run halted.
pub record ReportsTrace (report : TraceReport) (old new : Outside) (answer : Status) : Type 0 where
  pub bytes : List ℕ
  pub trace : IsTrace old bytes
  pub read : Consumes old.source.bytes new.source.bytes bytes ⊎ IsTrue (of_bytes report bytes).is_halted
  pub appended : Appends old.sink.bytes new.sink.bytes (of_bytes report bytes).text
  pub status : answer ≡ (of_bytes report bytes).status

-- A line of the trace is refused, and the whole report, whose last line says so, was appended.
pub record RefusesLine (report : TraceReport) (old new : Outside) : Type 0 where
  pub bytes : List ℕ
  pub trace : IsTrace old bytes
  pub refused : (of_bytes report bytes).status ≡ TraceFault
  pub appended : Appends old.sink.bytes new.sink.bytes (of_bytes report bytes).text

-- A read failed after these bytes of the trace: no whole line of them is refused or halts the run, at most as many bytes
-- as a line may have stand behind the last whole line, they are within the limit of the trace, and the texts of the whole
-- lines were appended.
pub record IsCutShort (report : TraceReport) (old new : Outside) : Type 0 where
  pub bytes : List ℕ
  pub read : Consumes old.source.bytes new.source.bytes bytes
  pub goes_on : IsTrue (of_bytes report (whole_lines bytes)).is_at_end
  pub tail : length bytes ≤ length (whole_lines bytes) + LONGEST_LINE
  pub within : length bytes ≤ report.limit
  pub part : Appends old.sink.bytes new.sink.bytes (of_bytes report (whole_lines bytes)).part

-- A beginning of the report was appended.
pub record AppendsPartOfReport (report : TraceReport) (old new : Outside) : Type 0 where
  pub bytes : List ℕ
  pub trace : IsTrace old bytes
  pub part : AppendsPart old.sink.bytes new.sink.bytes (of_bytes report bytes).text

-- What stands after a run, by its status. A failure is answered only where the count of faults of the object that it
-- speaks of rose in the call.
abbrev pub EndsAs : TraceReport → Outside → Outside → Status → Type 0
EndsAs report old new Clean = ReportsTrace report old new Clean
EndsAs report old new Violated = ReportsTrace report old new Violated
EndsAs report old new TraceFault = RefusesLine report old new
EndsAs report old new ReadFault = Rose old.source.faults new.source.faults × IsCutShort report old new
EndsAs report old new WriteFault = Rose old.sink.faults new.sink.faults × AppendsPartOfReport report old new
EndsAs report old new NoMemory = AppendsPartOfReport report old new
EndsAs report old new Usage = ⊥

-- One text was written and this status is answered; or the sink failed in it, and a beginning of it was appended.
abbrev pub WritesOnce : List ℕ → Status → SinkChange → Status → Type 0
WritesOnce text status sink answer =
    ((answer ≡ status) × Appends sink.old.bytes sink.new.bytes text)
    ⊎ ((answer ≡ WriteFault) × Rose sink.old.faults sink.new.faults × AppendsPart sink.old.bytes sink.new.bytes text)

-- What was appended where the words of the command line are refused, by the status.
abbrev pub RefusesWords : List ℕ → Outside → Outside → Status → Type 0
RefusesWords usage old new Usage = Appends old.sink.bytes new.sink.bytes usage
RefusesWords usage old new WriteFault = Rose old.sink.faults new.sink.faults × AppendsPart old.sink.bytes new.sink.bytes usage
RefusesWords usage old new NoMemory = Keeps old.sink.bytes new.sink.bytes
RefusesWords usage old new Clean = ⊥
RefusesWords usage old new Violated = ⊥
RefusesWords usage old new TraceFault = ⊥
RefusesWords usage old new ReadFault = ⊥
