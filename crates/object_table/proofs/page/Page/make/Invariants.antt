use Rattle.std.proofs.Common.{◌≡◌, length}
use Rattle.object_table.proofs.page.Page.make.Given as goal

-- as many cells as places were passed
abbrev pub invariant-loop-place : goal.invariant-loop-place
invariant-loop-place l = length l.cells.items ≡ l._place
