-- What it is to an object that its slots are written anew.
use Rattle.std.proofs.Common.{◌≡◌, ℕ, List, length, map, drop, Bool, false, sym, ap, subst, ◌∙◌, arith}
use Rattle.std.specs.List.{All, refill}
use Rattle.std.proofs.lemmas.List.{length-map, take_at}
use Rattle.object_table.specs.Residents.{Resident, StrongHoldKept, slot_after, slot_cleared}
use Rattle.object_table.specs.Stored.{AreStoredSlots}
use Rattle.object_table.specs.declared.slot.Slot.{Slot}
use Rattle.object_table.proofs.StrongSlots.{none_emptied, strong-cleared}

-- a list of as many slots in place of others
refilled : (n : ℕ) (slots others : List Slot) → n ≡ length slots → length others ≡ length slots → refill n slots others ≡ others
refilled n slots others count same = take_at others (drop (length others) slots) n (same ∙ sym count)

-- the slots, which were lent, are those after this was done to each
written : (f : Slot → Slot) (n : ℕ) (slots lent left : List Slot) → n ≡ length slots → lent ≡ slots → left ≡ map f lent → refill n slots left ≡ map f slots
written f n slots lent left count same done =
    let is : left ≡ map f slots = done ∙ ap (map f) same in
    refilled n slots left count (ap length is ∙ length-map slots f) ∙ is

pub slots_cleared : (marked : List Bool) (has_weak : Bool) (n : ℕ) (slots lent left : List Slot) → AreStoredSlots has_weak slots → n ≡ length slots →
    lent ≡ slots → left ≡ map (slot_cleared marked) lent → AreStoredSlots has_weak (refill n slots left)
slots_cleared marked has_weak n slots lent left stored count same done =
    let after = written (slot_cleared marked) n slots lent left count same done in (
      omega (arith, ap length after, length-map slots (slot_cleared marked), stored.0),
      λ none. subst (All (λ s. s.weak ≡ false)) (sym after) (strong-cleared marked slots (stored.1 none)),
    )

-- the object with these slots
abbrev with_slots : Resident → List Slot → Resident
with_slots o slots = record o { slots = slots }

pub slots_kept : (kept : List Bool) (n : ℕ) (o : Resident) (lent left : List Slot) → n ≡ length o.slots →
    lent ≡ o.slots → left ≡ map (slot_after kept) lent → record o { slots = refill n o.slots left } ≡ record o { slots = map (slot_after kept) o.slots }
slots_kept kept n o lent left count same done = ap (with_slots o) (written (slot_after kept) n o.slots lent left count same done)

-- no slot is weak, so none of them is emptied
pub none_after : (kept : List Bool) (has_weak : Bool) (o : Resident) → AreStoredSlots has_weak o.slots → has_weak ≡ false → StrongHoldKept kept o →
    o ≡ record o { slots = map (slot_after kept) o.slots }
none_after kept has_weak o stored none strong = ap (with_slots o) (sym (none_emptied kept o.slots strong (stored.1 none)))
