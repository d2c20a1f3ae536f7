use Rattle.std.proofs.Common.{◌≡◌}
use Rattle.object_table.specs.Blocks.{all_entries, NoneEmpty}
use Rattle.object_table.proofs.blocks.merge_neighbours.Given as goal

-- no block is empty, and the entries are the same
abbrev pub invariant-loop-at : goal.invariant-loop-at
invariant-loop-at l = record {
  some : NoneEmpty l.blocks.items;
  same : all_entries l.blocks.items ≡ all_entries l.initial.blocks.items;
}
