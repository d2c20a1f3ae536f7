use Rattle.heap_snapshot.proofs.TraceItems.{remakes_heap}
use Rattle.heap_snapshot.proofs.laws.a_trace_of_a_snapshot_makes_its_heap.Goals as goal

pub returns : goal.returns
returns c = remakes_heap
