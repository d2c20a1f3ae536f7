-- An object as it stands in memory.
use Rattle.std.specs.Prelude.{◌≡◌, ◌≤◌, All, length, Bool, List, false}
use Rattle.heap_base.specs.declared.limits.TheConstants.{MOST_SLOTS}
use Rattle.object_table.specs.Residents.{Resident}
use Rattle.object_table.specs.declared.slot.Slot.{Slot}
use Rattle.object_table.specs.declared.object.Stored.{Stored}
use Rattle.object_table.specs.declared.object.Stored.TheVariants.{Few, Many}

-- the object
abbrev pub resident_of : Stored → Resident
resident_of (Few has_weak kind id slots) = record { id = id; kind = kind; slots = slots.items }
resident_of (Many has_weak kind id slots) = record { id = id; kind = kind; slots = slots.items }

-- There are no more slots than there may be, and where the flag is not set, none is weak.
abbrev pub AreStoredSlots : Bool → List Slot → Type 0
AreStoredSlots has_weak slots = (length slots ≤ MOST_SLOTS) × (has_weak ≡ false → All (λ s. s.weak ≡ false) slots)

-- its slots are as its flag says
abbrev pub IsStored : Stored → Type 0
IsStored (Few has_weak kind id slots) = AreStoredSlots has_weak slots.items
IsStored (Many has_weak kind id slots) = AreStoredSlots has_weak slots.items
