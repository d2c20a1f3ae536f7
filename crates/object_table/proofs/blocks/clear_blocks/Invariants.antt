use Rattle.std.proofs.Common.{◌≡◌, ◌++◌, map, take, drop}
use Rattle.object_table.specs.Blocks.{run_cleared}
use Rattle.object_table.proofs.blocks.clear_blocks.Given as goal

-- the blocks before this one have lost their marked entries
abbrev pub invariant-loop-at : goal.invariant-loop-at
invariant-loop-at l = l.blocks.items ≡ map (run_cleared l.ids l.marked) (take l.at l.initial.blocks.items) ++ drop l.at l.initial.blocks.items
