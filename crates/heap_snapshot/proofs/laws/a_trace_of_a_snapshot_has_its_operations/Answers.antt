use Rattle.heap_snapshot.proofs.TraceItems.{trace_has_events}
use Rattle.heap_snapshot.proofs.laws.a_trace_of_a_snapshot_has_its_operations.Goals as goal

pub returns : goal.returns
returns c = trace_has_events
