use Rattle.object_table.proofs.Housing.{IsSwept}
use Rattle.object_table.proofs.cells.sweep.Given as goal

-- the cells from this one on are swept
abbrev pub invariant-loop-cell : goal.invariant-loop-cell
invariant-loop-cell l = IsSwept l.kept l.initial.pages.cells l.pages.cells l.cell l.first
