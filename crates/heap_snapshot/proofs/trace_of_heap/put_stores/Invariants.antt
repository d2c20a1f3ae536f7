use Rattle.std.proofs.Common.{◌≡◌, ◌++◌, take}
use Rattle.std.specs.List.{flat_map}
use Rattle.heap_snapshot.specs.Trace.{store_lines}
use Rattle.heap_snapshot.proofs.trace_of_heap.put_stores.Given as goal

abbrev pub invariant-loop-place : goal.invariant-loop-place
invariant-loop-place l = l.text.items ≡ l.fn.text.items ++ flat_map store_lines (take l.place l.objects)
