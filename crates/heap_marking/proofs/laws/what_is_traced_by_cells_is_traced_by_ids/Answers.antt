use Rattle.heap_marking.proofs.HeapTraces.{cells_trace_heaps}
use Rattle.heap_marking.proofs.laws.what_is_traced_by_cells_is_traced_by_ids.Goals as goal

pub returns : goal.returns
returns c = cells_trace_heaps
