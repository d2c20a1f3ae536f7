use Rattle.std.proofs.Common.{◌≡◌, ◌+◌, ◌≤◌, ◌++◌, ◌∷◌, [], drop, map}
use Rattle.heap_snapshot.specs.declared.line.Line.TheVariants.{End}
use Rattle.heap_snapshot.specs.Text.{line_of_root}
use Rattle.heap_snapshot.specs.Dangling.{dangling_from}
use Rattle.heap_snapshot.proofs.dangling.dangling_in_roots.Given as goal

abbrev pub invariant-loop-place : goal.invariant-loop-place
invariant-loop-place l = record {
  found : dangling_from l.ids l.line (map line_of_root l.roots ++ End ∷ []) ≡ dangling_from l.ids l.next (map line_of_root (drop l.place l.roots) ++ End ∷ []);
  bound : l.next ≤ l.line + l.place;
}
