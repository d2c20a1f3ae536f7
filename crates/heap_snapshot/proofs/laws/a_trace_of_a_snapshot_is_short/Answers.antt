use Rattle.heap_snapshot.proofs.TraceItems.{trace_is_short}
use Rattle.heap_snapshot.proofs.laws.a_trace_of_a_snapshot_is_short.Goals as goal

pub returns : goal.returns
returns c = trace_is_short
