use Rattle.std.proofs.Common.{ℕ, ◌∙◌, arith}
use Rattle.graph_meaning.specs.Views.{object_view}
use Rattle.object_table.specs.Parts.{object_at_cell}
use Rattle.object_table.proofs.Shown.{item_more, placed_shown}
use Rattle.object_table.proofs.views.objects_view.Goals as goal

pub loop-place-preserved : goal.loop-place-preserved
loop-place-preserved c =
    let d : ℕ × ℕ = (0, 0) in
    item_more (λ (e : ℕ × ℕ). object_view (object_at_cell c.args.kinds.now c.args.cells.now.cells e.1)) c.args.ids.now c.loop-place.objects
    c.push.new.self c.loop-place.place d c.in_ok-view_of.field-0 (omega arith)
    (c.in_ok-view_of.ensures
    ∙ placed_shown c.args.kinds.now c.args.cells.now.cells c.args.ids.now c.loop-place.place c.cell.result c.at-object.result.now d (omega arith) c.cell.ensures c.at-object.ensures)
    c.loop-place.invariant c.in_ok-push.ensures.ok
