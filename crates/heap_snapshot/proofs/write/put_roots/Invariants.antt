use Rattle.std.proofs.Common.{◌≡◌, ◌++◌, map, take}
use Rattle.std.specs.List.{flat_map}
use Rattle.heap_snapshot.specs.Lines.{line_bytes}
use Rattle.heap_snapshot.specs.Text.{line_of_root}
use Rattle.heap_snapshot.proofs.write.put_roots.Given as goal

abbrev pub invariant-loop-place : goal.invariant-loop-place
invariant-loop-place l = l.text.items ≡ l.fn.text.items ++ flat_map line_bytes (map line_of_root (take l.place l.roots))
