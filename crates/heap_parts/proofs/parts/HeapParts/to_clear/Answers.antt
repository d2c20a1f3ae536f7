use Rattle.std.proofs.Common.{◌≡◌, length, sym, ap, subst, ◌∙◌}
use Rattle.std.proofs.lemmas.Result.{IfOk-weaker}
use Rattle.object_table.specs.Placed.{IsPlaced}
use Rattle.heap_parts.specs.Parts.{AreDeadAndTraced, PlacedHeap, dead_below, placed_in}
use Rattle.heap_parts.proofs.Cleared.{flags_tell}
use Rattle.heap_parts.proofs.parts.HeapParts.to_clear.Goals as goal

pub returns : goal.returns
returns c =
    let h : PlacedHeap = c.args.self.now in
    let cells = c.cells-cells.result in
    let roles = c.args.roles.now in
    let kept = c.args.kept.now in
    let placed : IsPlaced (placed_in h) = subst (λ (q : PlacedHeap). IsPlaced (placed_in q)) c.self.view_is c.cells-cells.ensures.placed in
    let many : cells ≡ length h.cells = c.cells-cells.ensures.count ∙ ap (λ (q : PlacedHeap). length q.cells) c.self.view_is in
    IfOk-weaker c.dead_and_traced.result (λ flags. flags.items ≡ dead_below roles kept cells) (λ flags. AreDeadAndTraced h flags.items)
    (λ flags are. subst (AreDeadAndTraced h) (sym are) (flags_tell h placed roles c.requires.of_heap kept c.requires.kept cells many))
    c.dead_and_traced.ensures
