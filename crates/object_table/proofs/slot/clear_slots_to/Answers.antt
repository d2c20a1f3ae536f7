use mir.Val.{bool_byte}
use Rattle.std.proofs.Common.{◌≡◌, ℕ, Bool, true, false, ◌+◌, ◌≤◌, cond, refl, sym, ◌∙◌, ap, set, arith}
use Rattle.std.proofs.lemmas.List.Sums.{count_by-le-length}
use Rattle.heap_base.specs.declared.limits.TheConstants.{MOST_SLOTS}
use Rattle.object_table.specs.Residents.{holds_marked, slot_cleared}
use Rattle.object_table.proofs.Passes.{passed_fits, passed_more}
use Rattle.object_table.proofs.slot.clear_slots_to.Goals as goal

abbrev one_if : Bool → ℕ
one_if b = cond b 1 0

-- what a flag counts
counts : (b : Bool) → bool_byte b ≡ cond b 1 0
counts true = refl
counts false = refl

pub overflow_add-cleared : goal.overflow_add-cleared
overflow_add-cleared c =
    let fits : c.loop-slot.cleared + c.from-cleared.result ≤ MOST_SLOTS =
    passed_fits (slot_cleared c.args.marked.now) (λ s. cond (holds_marked c.args.marked.now s) 1 0) c.args.slots.now c.loop-slot.slots
    c.loop-slot.slot c.loop-slot.cleared c.loop-slot.invariant c.loop-slot-test.true c.index-slots-slot.result c.from-cleared.result MOST_SLOTS
    c.index-slots-slot.is (c.from-cleared.ensures ∙ counts c.clear_to.result
    ∙ ap one_if (c.clear_to.ensures.held ∙ ap (holds_marked c.args.marked.now) (sym c.index-slots-slot.is)))
    (omega (arith, count_by-le-length (holds_marked c.args.marked.now) c.args.slots.now, c.requires)) in
    omega arith

pub loop-slot-preserved : goal.loop-slot-preserved
loop-slot-preserved c =
    passed_more (slot_cleared c.args.marked.now) (λ s. cond (holds_marked c.args.marked.now s) 1 0) c.args.slots.now c.loop-slot.slots
    c.loop-slot.slot c.loop-slot.cleared c.loop-slot.invariant c.loop-slot-test.true _ c.index-slots-slot.result c.from-cleared.result
    c.index-slots-slot.is (ap (set c.loop-slot.slots c.loop-slot.slot) (c.clear_to.ensures.cleared ∙ ap (slot_cleared c.args.marked.now) (sym c.index-slots-slot.is)))
    (c.from-cleared.ensures ∙ counts c.clear_to.result
    ∙ ap one_if (c.clear_to.ensures.held ∙ ap (holds_marked c.args.marked.now) (sym c.index-slots-slot.is)))
