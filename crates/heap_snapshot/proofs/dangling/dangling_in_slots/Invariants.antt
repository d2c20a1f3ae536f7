use Rattle.std.proofs.Common.{◌≡◌, ◌+◌, ◌≤◌, ◌++◌, List, drop}
use Rattle.heap_snapshot.specs.declared.line.Line.{Line}
use Rattle.heap_snapshot.specs.Text.{lines_of_slots}
use Rattle.heap_snapshot.specs.Dangling.{dangling_from}
use Rattle.heap_snapshot.proofs.dangling.dangling_in_slots.Given as goal

abbrev pub invariant-loop-place : goal.invariant-loop-place
invariant-loop-place l = record {
  found : (rest : List Line) → dangling_from l.ids l.fn.line (lines_of_slots 0 l.slots ++ rest) ≡ dangling_from l.ids l.next (lines_of_slots l.place (drop l.place l.slots) ++ rest);
  bound : l.next ≤ l.fn.line + l.place;
}
