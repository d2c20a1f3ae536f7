use Rattle.std.proofs.Common.{◌≡◌, ◌+◌, ◌*◌, ◌^◌, ◌≤◌, ◌++◌, List, drop}
use Rattle.std.specs.List.{flat_map}
use Rattle.heap_snapshot.specs.declared.line.Line.{Line}
use Rattle.heap_snapshot.specs.Text.{lines_of_object}
use Rattle.heap_snapshot.specs.Dangling.{dangling_from}
use Rattle.heap_snapshot.proofs.dangling.dangling_in_objects.Given as goal

abbrev pub invariant-loop-place : goal.invariant-loop-place
invariant-loop-place l = record {
  found : (rest : List Line) → dangling_from l.ids l.fn.line (flat_map lines_of_object l.objects ++ rest) ≡ dangling_from l.ids l.next (flat_map lines_of_object (drop l.place l.objects) ++ rest);
  bound : l.next ≤ 2 + l.place * 2 ^ 32;
}
