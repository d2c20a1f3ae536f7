use Rattle.std.proofs.Common.{cond}
use Rattle.object_table.specs.Residents.{holds_marked, slot_cleared}
use Rattle.object_table.proofs.Passes.{IsPassed}
use Rattle.object_table.proofs.slot.clear_slots_to.Given as goal

-- the slots before this one are cleared and counted
abbrev pub invariant-loop-slot : goal.invariant-loop-slot
invariant-loop-slot l =
    IsPassed (slot_cleared l.marked) (λ s. cond (holds_marked l.marked s) 1 0) l.initial.slots l.slots l.slot l.cleared
