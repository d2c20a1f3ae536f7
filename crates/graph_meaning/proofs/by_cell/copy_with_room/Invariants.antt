use Rattle.std.proofs.Common.{◌≡◌, ◌≤◌, take, vec_capacity}
use Rattle.graph_meaning.proofs.by_cell.copy_with_room.Given as goal

abbrev pub invariant-loop-value : goal.invariant-loop-value
invariant-loop-value g l = record {
  items : l.copied.items ≡ take l.value-index l.value-items;
  room : vec_capacity l.list ≤ vec_capacity l.copied;
}
