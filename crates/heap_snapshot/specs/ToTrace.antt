-- The trace that makes the heap of a snapshot, and what a run over the bytes of a snapshot does, by its status.
use Rattle.std.specs.Prelude.{◌≡◌, ℕ, ◌≤◌, List, [], ◌++◌, length, Result, Ok, Err, Option, IfSome, codes, decimal}
use Rattle.std.specs.Io.KnownBytes.{Appends, Consumes, Keeps}
use Rattle.streams.specs.Causes.{Rose}
use Rattle.streams.specs.Sinks.{AppendsPart}
use Rattle.heap_base.specs.declared.status.Status.{Status}
use Rattle.heap_base.specs.declared.status.Status.TheVariants.{Clean, Violated, TraceFault, ReadFault, WriteFault, NoMemory, Usage}
use Rattle.graph_meaning.specs.declared.views.HeapView.{HeapView}
use Rattle.heap_snapshot.specs.declared.read.TheConstants.{LONGEST_SNAPSHOT}
use Rattle.heap_snapshot.specs.declared.refusal.SnapWhy.{SnapWhy}
use Rattle.heap_snapshot.specs.declared.refusal.SnapWhy.TheVariants.{TooLong, BadLine, Unended, Dangling}
use Rattle.heap_snapshot.specs.Reading.{Refusal, snapshot_in}
use Rattle.heap_snapshot.specs.Trace.{trace_text}
use Rattle.trace_run.specs.Outcome.{Outside, IsTrace}

-- ---- what there is to write

-- the name of a refusal, and its detail where it has one
abbrev pub why_text : SnapWhy → List ℕ
why_text TooLong = codes "TooLong"
why_text BadLine = codes "BadLine"
why_text Unended = codes "Unended"
why_text (Dangling id) = codes "Dangling " ++ decimal id

-- the line of a refusal
unfoldable pub snapshot_fault_text : ℕ → SnapWhy → List ℕ
snapshot_fault_text line why = codes "fault line " ++ decimal line ++ codes ": " ++ why_text why ++ codes "\n"

abbrev pub text_by : Result HeapView Refusal → List ℕ
text_by (Ok v) = trace_text v
text_by (Err r) = snapshot_fault_text r.line r.why

abbrev pub view_status : Result HeapView Refusal → Status
view_status (Ok v) = Clean
view_status (Err r) = TraceFault

-- the trace of the snapshot that the bytes are, or the line of the refusal
abbrev pub text_of : List ℕ → List ℕ
text_of bytes = text_by (snapshot_in bytes)

abbrev pub snapshot_status : List ℕ → Status
snapshot_status bytes = view_status (snapshot_in bytes)

-- ---- what stands when a run has returned

-- All bytes were read, they are a snapshot, and its trace was appended.
pub record Converts (old new : Outside) : Type 0 where
  pub bytes : List ℕ
  pub snapshot : IsTrace old bytes
  pub read : Consumes old.source.bytes new.source.bytes bytes
  pub taken : snapshot_status bytes ≡ Clean
  pub text : Appends old.sink.bytes new.sink.bytes (text_of bytes)

-- The bytes are no snapshot, and the line of the refusal was appended, and nothing else.
pub record RefusesSnapshot (old new : Outside) : Type 0 where
  pub bytes : List ℕ
  pub snapshot : IsTrace old bytes
  pub refused : snapshot_status bytes ≡ TraceFault
  pub text : Appends old.sink.bytes new.sink.bytes (text_of bytes)

-- A beginning of what there was to write was appended.
pub record WritesPart (old new : Outside) : Type 0 where
  pub bytes : List ℕ
  pub snapshot : IsTrace old bytes
  pub part : AppendsPart old.sink.bytes new.sink.bytes (text_of bytes)

-- What stands after a run, by its status. A failure is answered only where the count of faults of the object that it
-- speaks of rose in the call; where a read failed, nothing was appended.
abbrev pub ConversionEndsAs : Outside → Outside → Status → Type 0
ConversionEndsAs old new Clean = Converts old new
ConversionEndsAs old new Violated = ⊥
ConversionEndsAs old new TraceFault = RefusesSnapshot old new
ConversionEndsAs old new ReadFault = Rose old.source.faults new.source.faults × Keeps old.sink.bytes new.sink.bytes
ConversionEndsAs old new WriteFault = Rose old.sink.faults new.sink.faults × WritesPart old new
ConversionEndsAs old new NoMemory = WritesPart old new
ConversionEndsAs old new Usage = ⊥

-- ---- reading a source whole

-- These bytes were read: all there are, or more than a snapshot may have.
pub record IsRead (before after : Option (List ℕ)) (text : List ℕ) : Type 0 where
  pub consumed : Consumes before after text
  pub whole : length text ≤ LONGEST_SNAPSHOT → IfSome after (λ left. left ≡ [])
