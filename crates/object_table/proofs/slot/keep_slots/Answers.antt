use Rattle.std.proofs.Common.{◌≤◌, ◌++◌, length, map, drop, set, ◌∙◌, ap}
use Rattle.std.proofs.lemmas.List.{append-nil, take_all, drop_all}
use Rattle.std.proofs.lemmas.List.Edits.{map_over_more}
use Rattle.object_table.specs.Residents.{slot_after}
use Rattle.object_table.proofs.slot.keep_slots.Goals as goal

pub loop-slot-preserved : goal.loop-slot-preserved
loop-slot-preserved c =
    ap (set c.loop-slot.slots c.loop-slot.slot) c.after.ensures
    ∙ map_over_more (slot_after c.args.kept.now) c.args.slots.now c.loop-slot.slots c.loop-slot.slot c.index-slots-slot.result c.loop-slot-test.true c.loop-slot.invariant c.index-slots-slot.is

pub returns : goal.returns
returns c =
    let end : length c.args.slots.now ≤ c.loop-slot.slot = c.loop-slot-test.false in
    c.loop-slot.invariant
    ∙ ap (λ l. map (slot_after c.args.kept.now) l ++ drop c.loop-slot.slot c.args.slots.now) (take_all c.loop-slot.slot c.args.slots.now end)
    ∙ ap (λ l. map (slot_after c.args.kept.now) c.args.slots.now ++ l) (drop_all c.loop-slot.slot c.args.slots.now end)
    ∙ append-nil (map (slot_after c.args.kept.now) c.args.slots.now)
