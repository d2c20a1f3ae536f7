use Rattle.std.proofs.Common.{◌++◌, ap, ◌∙◌}
use Rattle.heap_snapshot.specs.Trace.{alloc_line}
use Rattle.heap_snapshot.proofs.Lists.{flat_map_take_next}
use Rattle.heap_snapshot.proofs.trace_of_heap.put_allocs.Goals as goal

pub loop-place-preserved : goal.loop-place-preserved
loop-place-preserved c =
    c.in_ok-put_alloc.ensures ∙ ap (λ t. t ++ alloc_line c.at.result.now) c.loop-place.invariant
    ∙ flat_map_take_next alloc_line c.args.text.now.items c.args.objects.now c.loop-place.place c.at.result.now c.at.ensures
