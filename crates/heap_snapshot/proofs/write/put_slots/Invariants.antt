use Rattle.std.proofs.Common.{◌≡◌, ◌++◌, take}
use Rattle.std.specs.List.{flat_map}
use Rattle.heap_snapshot.specs.Lines.{line_bytes}
use Rattle.heap_snapshot.specs.Text.{lines_of_slots}
use Rattle.heap_snapshot.proofs.write.put_slots.Given as goal

abbrev pub invariant-loop-place : goal.invariant-loop-place
invariant-loop-place l = l.text.items ≡ l.fn.text.items ++ flat_map line_bytes (lines_of_slots 0 (take l.place l.slots))
