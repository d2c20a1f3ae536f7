use Rattle.std.proofs.Common.{◌≡◌, take, map}
use Rattle.graph_meaning.specs.Views.{object_view}
use Rattle.object_table.specs.Parts.{object_at_cell}
use Rattle.object_table.proofs.views.objects_view.Given as goal

-- the objects before this place are shown
abbrev pub invariant-loop-place : goal.invariant-loop-place
invariant-loop-place l = l.objects ≡ map (λ e. object_view (object_at_cell l.kinds l.cells.cells e.1)) (take l.place l.ids)
