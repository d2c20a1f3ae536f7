use Rattle.std.proofs.Common.{◌≡◌, length}
use Rattle.object_table.specs.Chains.{IsFrontOf}
use Rattle.object_table.proofs.cells.drop_last.Given as goal

-- the cells from this one on were taken away
abbrev pub invariant-loop-cell : goal.invariant-loop-cell
invariant-loop-cell l = record {
  count : length l.pages.cells ≡ l.cell;
  front : IsFrontOf l.kept l.initial.pages.cells l.pages.cells;
}
