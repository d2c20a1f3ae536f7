use Rattle.std.proofs.Common.{◌++◌, ap, ◌∙◌}
use Rattle.heap_snapshot.specs.Trace.{store_line}
use Rattle.heap_snapshot.proofs.Lists.{slot_lines_take_next}
use Rattle.heap_snapshot.proofs.trace_of_heap.put_slots.Goals as goal

pub loop-place-preserved : goal.loop-place-preserved
loop-place-preserved c =
    c.in_ok-put_slot.ensures ∙ ap (λ t. t ++ store_line c.args.at c.loop-place.place c.at.result.now) c.loop-place.invariant
    ∙ slot_lines_take_next c.args.at c.args.text.now.items c.args.slots.now c.loop-place.place c.at.result.now c.at.ensures
