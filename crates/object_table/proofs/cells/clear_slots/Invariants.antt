use Rattle.object_table.specs.Chains.{with_slots_cleared, holders_at}
use Rattle.object_table.proofs.Passes.{IsPassed}
use Rattle.object_table.proofs.cells.clear_slots.Given as goal

-- the cells before this one are cleared and counted
abbrev pub invariant-loop-cell : goal.invariant-loop-cell
invariant-loop-cell l = IsPassed (with_slots_cleared l.marked) (holders_at l.marked) l.initial.pages.cells l.pages.cells l.cell l.cleared
