use Rattle.std.proofs.Common.{◌≡◌, ◌++◌, map, take, drop}
use Rattle.object_table.specs.Residents.{slot_after}
use Rattle.object_table.proofs.slot.keep_slots.Given as goal

-- the slots before this one are those after the cells were emptied
abbrev pub invariant-loop-slot : goal.invariant-loop-slot
invariant-loop-slot l =
    l.slots ≡ map (slot_after l.kept) (take l.slot l.initial.slots) ++ drop l.slot l.initial.slots
