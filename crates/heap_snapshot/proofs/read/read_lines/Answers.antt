use Rattle.std.proofs.Common.{◌≤◌, ◌<◌, ap, sym, subst, ◌∙◌, length, AllPairs}
use Rattle.heap_base.specs.declared.limits.TheConstants.{USUAL_OBJECTS}
use Rattle.graph_meaning.specs.declared.views.HeapView.{HeapView}
use Rattle.heap_snapshot.specs.Dangling.{first_dangling, object_ids}
use Rattle.heap_snapshot.specs.Reading.{Reads, unless_dangling}
use Rattle.heap_snapshot.proofs.read.read_lines.Goals as goal

pub without_dangling-requires-clause-few : goal.without_dangling-requires-clause-few
without_dangling-requires-clause-few c = subst (λ (v : HeapView). length v.objects ≤ USUAL_OBJECTS) (sym c.into_view.ensures) c.in_ok-take_lines.ensures.few

pub without_dangling-requires-clause-rising : goal.without_dangling-requires-clause-rising
without_dangling-requires-clause-rising c =
    subst (λ (v : HeapView). AllPairs (λ x y. x < y) (object_ids v.objects)) (sym c.into_view.ensures) c.in_ok-take_lines.ensures.rising

pub returns : goal.returns
returns c =
    subst (λ read. Reads c.without_dangling.result read) (ap (λ v. unless_dangling v (first_dangling v)) c.into_view.ensures ∙ sym c.in_ok-take_lines.ensures.meaning)
    c.without_dangling.ensures
