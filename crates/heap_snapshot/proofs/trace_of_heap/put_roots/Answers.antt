use Rattle.std.proofs.Common.{◌++◌, ap, ◌∙◌}
use Rattle.heap_snapshot.specs.Trace.{root_line}
use Rattle.heap_snapshot.proofs.Lists.{flat_map_take_next}
use Rattle.heap_snapshot.proofs.trace_of_heap.put_roots.Goals as goal

pub loop-place-preserved : goal.loop-place-preserved
loop-place-preserved c =
    c.in_ok-put_root.ensures ∙ ap (λ t. t ++ root_line c.at-root.result.now) c.loop-place.invariant
    ∙ flat_map_take_next root_line c.args.text.now.items c.args.roots.now c.loop-place.place c.at-root.result.now c.at-root.ensures
