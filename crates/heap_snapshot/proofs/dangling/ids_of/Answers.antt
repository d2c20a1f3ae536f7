use Rattle.std.proofs.Common.{◌++◌, ◌∷◌, [], ap, ◌∙◌, sym}
use Rattle.graph_meaning.specs.declared.views.ObjectView.{ObjectView}
use Rattle.heap_snapshot.proofs.Danglings.{map_take_next}
use Rattle.heap_snapshot.proofs.dangling.ids_of.Goals as goal

pub loop-place-preserved : goal.loop-place-preserved
loop-place-preserved c =
    c.in_ok-push.ensures.items ∙ ap (λ xs. xs ++ c.at.result.now.id ∷ []) c.loop-place.invariant
    ∙ sym (map_take_next (λ (o : ObjectView). o.id) c.args.objects.now c.loop-place.place c.at.result.now c.at.ensures)
