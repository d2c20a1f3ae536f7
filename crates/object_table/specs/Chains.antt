-- The empty cells of a list of cells: each leads to the next one.
use Rattle.std.specs.Prelude.{◌≡◌, ℕ, ◌+◌, ◌<◌, ◌≤◌, List, [], ◌∷◌, length, map, take, Option, None, Some, Bool, true, false, slice_set}
use Rattle.heap_base.specs.declared.limits.TheConstants.{MOST_OBJECTS}
use Rattle.object_table.specs.declared.slot.Slot.{Slot}
use Rattle.object_table.specs.Residents.{Resident, is_flagged, held_after, resident_after, resident_cleared, holders_held}
use Rattle.object_table.specs.declared.cell.Cell.{Cell}
use Rattle.object_table.specs.declared.cell.Cell.TheVariants.{Taken, Empty}

-- the object that a cell holds, if it holds one
abbrev pub resident_in : Cell → Option Resident
resident_in (Taken o) = Some o
resident_in (Empty next) = None

-- the first empty cell of one numbered n and those after it, of which this is the first empty one
abbrev pub empty_from : ℕ → Cell → Option ℕ → Option ℕ
empty_from n (Taken o) later = later
empty_from n (Empty next) later = Some n

-- the first empty cell, where the cells are numbered from n on
abbrev pub first_empty : ℕ → List Cell → Option ℕ
first_empty n [] = None
first_empty n (c ∷ cells) = empty_from n c (first_empty (n + 1) cells)

-- an empty cell leads to this one
abbrev pub LeadsOn : Cell → Option ℕ → Type 0
LeadsOn (Taken o) later = Unit {0}
LeadsOn (Empty next) later = next ≡ later

-- Each empty cell leads to the first empty one after it.
abbrev pub IsLinked : ℕ → List Cell → Type 0
IsLinked n [] = Unit {0}
IsLinked n (c ∷ cells) = LeadsOn c (first_empty (n + 1) cells) × IsLinked (n + 1) cells

-- the cell after those that are not kept were emptied: where it is empty then, it leads to this one
abbrev pub cell_after : Bool → List Bool → Option ℕ → Cell → Cell
cell_after true kept later (Taken o) = Taken (resident_after kept o)
cell_after true kept later (Empty next) = Empty later
cell_after false kept later c = Empty later

-- the empty cell that an empty cell leads to
abbrev pub next_in : Cell → Option ℕ
next_in (Taken o) = None
next_in (Empty next) = next

-- an object in the cell has the slot
abbrev pub HasSlot : ℕ → Cell → Type 0
HasSlot slot (Taken o) = slot < length o.slots
HasSlot slot (Empty next) = Unit {0}

-- the cell, with a slot of the object in it put
abbrev pub with_slot_put : ℕ → Slot → Cell → Cell
with_slot_put slot value (Taken o) = Taken (record o { slots = slice_set o.slots slot value })
with_slot_put slot value (Empty next) = Empty next

-- the cell, with the slots of the object in it emptied that hold what stood in a cell that is not kept
abbrev pub with_slots_after : List Bool → Cell → Cell
with_slots_after kept (Taken o) = Taken (resident_after kept o)
with_slots_after kept (Empty next) = Empty next

-- the cell, with no slot of the object in it that holds the object of a marked cell
abbrev pub with_slots_cleared : List Bool → Cell → Cell
with_slots_cleared marked (Taken o) = Taken (resident_cleared marked o)
with_slots_cleared marked (Empty next) = Empty next

-- how many slots of the object in the cell hold the object of a marked cell
abbrev pub holders_at : List Bool → Cell → ℕ
holders_at marked c = holders_held marked (resident_in c)

-- the cells after those that are not kept were emptied, where they are numbered from n on
abbrev pub cells_after : List Bool → ℕ → List Cell → List Cell
cells_after kept n [] = []
cells_after kept n (c ∷ cells) =
    let rest = cells_after kept (n + 1) cells in cell_after (is_flagged kept n) kept (first_empty (n + 1) rest) c ∷ rest

-- The cells are the first of those before, and each of the others is empty, or not kept.
pub record IsFrontOf (kept : List Bool) (before after : List Cell) : Type 0 where
  pub front : after ≡ take (length after) before
  pub others : (cell : ℕ) → length after ≤ cell → held_after kept (map resident_in before) cell ≡ None

-- Each empty cell leads to the next, this is the first, and there are no more cells than there may be objects.
pub record IsHoused (cells : List Cell) (first : Option ℕ) : Type 0 where
  pub first_is : first ≡ first_empty 0 cells
  pub linked : IsLinked 0 cells
  pub few : length cells ≤ MOST_OBJECTS
