use Rattle.std.proofs.Common.{◌≡◌, take}
use Rattle.object_table.proofs.views.roots_view.Given as goal

-- the roots before this one are shown
abbrev pub invariant-loop-root : goal.invariant-loop-root
invariant-loop-root l = l.views ≡ take l.root l.roots
