-- A law of the run that makes a snapshot of a trace.
use Rattle.std.specs.Prelude.{◌≡◌, List, []}
use Rattle.heap_base.specs.Limits.{usual_limits}
use Rattle.graph_meaning.specs.Heap.{empty_heap}
use Rattle.trace_reader.specs.Meaning.{Item}
use Rattle.trace_run.specs.Program.{report_by}
use Rattle.heap_snapshot.specs.FromTrace.{snapshot_meaning}

-- Whatever the trace is, nothing is due before its end, or before the line that is refused.
abbrev pub WritesAtTheEnd : Type 0
WritesAtTheEnd = (items : List Item) → (report_by snapshot_meaning (empty_heap usual_limits) items).part ≡ []
