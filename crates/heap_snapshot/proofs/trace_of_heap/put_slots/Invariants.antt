use Rattle.std.proofs.Common.{◌≡◌, ◌++◌, take}
use Rattle.heap_snapshot.specs.Trace.{slot_lines}
use Rattle.heap_snapshot.proofs.trace_of_heap.put_slots.Given as goal

abbrev pub invariant-loop-place : goal.invariant-loop-place
invariant-loop-place l = l.text.items ≡ l.fn.text.items ++ slot_lines l.at 0 (take l.place l.slots)
