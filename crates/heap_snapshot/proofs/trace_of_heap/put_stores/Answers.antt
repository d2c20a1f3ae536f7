use Rattle.std.proofs.Common.{◌++◌, ap, ◌∙◌}
use Rattle.heap_snapshot.specs.Trace.{store_lines}
use Rattle.heap_snapshot.proofs.Lists.{flat_map_take_next}
use Rattle.heap_snapshot.proofs.trace_of_heap.put_stores.Goals as goal

pub loop-place-preserved : goal.loop-place-preserved
loop-place-preserved c =
    c.in_ok-put_slots.ensures ∙ ap (λ t. t ++ store_lines c.at-object.result.now) c.loop-place.invariant
    ∙ flat_map_take_next store_lines c.args.text.now.items c.args.objects.now c.loop-place.place c.at-object.result.now c.at-object.ensures
