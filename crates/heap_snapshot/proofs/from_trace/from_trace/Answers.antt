use Rattle.std.proofs.Common.{refl}
use Rattle.heap_base.specs.Limits.{usual_limits}
use Rattle.graph_meaning.specs.Heap.{empty_heap}
use Rattle.trace_run.specs.Program.{report_by}
use Rattle.trace_run.specs.Outcome.{trace_report}
use Rattle.trace_run.proofs.Endings.{nothing_written}
use Rattle.heap_snapshot.specs.declared.from_trace.TheConstants.{LONGEST_TRACE}
use Rattle.heap_snapshot.specs.FromTrace.{snapshot_meaning}
use Rattle.heap_snapshot.proofs.from_trace.from_trace.Goals as goal

pub returns-in_default : goal.returns-in_default
returns-in_default g c = nothing_written (trace_report LONGEST_TRACE (report_by snapshot_meaning (empty_heap usual_limits))) _ _ refl
