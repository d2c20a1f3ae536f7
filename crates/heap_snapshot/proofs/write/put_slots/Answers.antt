use Rattle.std.proofs.Common.{◌+◌, ◌++◌, take, ap, ◌∙◌}
use Rattle.std.specs.List.{flat_map}
use Rattle.heap_snapshot.specs.Lines.{line_bytes}
use Rattle.heap_snapshot.specs.Text.{slot_line, lines_of_slots}
use Rattle.heap_snapshot.proofs.Writing.{more_lines, next_slot}
use Rattle.heap_snapshot.proofs.write.put_slots.Goals as goal

pub loop-place-preserved : goal.loop-place-preserved
loop-place-preserved c =
    c.in_ok-put_slot.ensures ∙ ap (λ t. t ++ flat_map line_bytes (slot_line c.loop-place.place c.at.result.now)) c.loop-place.invariant
    ∙ more_lines c.args.text.now.items (lines_of_slots 0 (take c.loop-place.place c.args.slots.now)) (slot_line c.loop-place.place c.at.result.now)
    (lines_of_slots 0 (take (c.loop-place.place + 1) c.args.slots.now))
    (next_slot c.args.slots.now c.loop-place.place c.at.result.now c.at.ensures)
