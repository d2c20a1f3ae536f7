use Rattle.object_table.proofs.Numbering.{IsNumbered}
use Rattle.object_table.proofs.blocks.renumber.Given as goal

-- the blocks before this one are numbered
abbrev pub invariant-loop-at : goal.invariant-loop-at
invariant-loop-at l = IsNumbered l.initial.blocks.items l.blocks.items l.at l.start
