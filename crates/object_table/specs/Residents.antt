-- Objects as they stand in cells: a slot holds a cell and not an id.
use Rattle.std.specs.Prelude.{◌≡◌, ℕ, All, IsTrue, IfSome, List, [], ◌∷◌, ◌++◌, length, map, Bool, not, false, nat_lt, if◌then◌else◌, Option, None, Some, is_some, slice_set, slice_index_or}
use Rattle.std.specs.List.{count_by, position_or_len}
use Rattle.std.specs.Option.{option_map, option_map_or}
use Rattle.object_table.specs.declared.slot.Slot.{Slot}

-- An object in a cell: its id, the number of its type, and its slots.
pub record Resident : Type 0 where
  pub id : ℕ
  pub kind : ℕ
  pub slots : List Slot

-- a slot that holds nothing and is not weak
abbrev pub no_edge : Slot
no_edge = record { held = None; weak = false }

-- whether the flag of the cell is set
abbrev pub is_flagged : List Bool → ℕ → Bool
is_flagged flags cell = slice_index_or flags cell false

-- the slot after the cells that are not kept were emptied
abbrev pub slot_after : List Bool → Slot → Slot
slot_after kept slot = if option_map_or (λ cell. not (is_flagged kept cell)) slot.held false then record slot { held = None } else slot

-- the object after the cells that are not kept were emptied
abbrev pub resident_after : List Bool → Resident → Resident
resident_after kept o = record o { slots = map (slot_after kept) o.slots }

-- no strong slot of the object holds what stands in a cell that is not kept
abbrev pub StrongHoldKept : List Bool → Resident → Type 0
StrongHoldKept kept o = All (λ s. s.weak ≡ false → slot_after kept s ≡ s) o.slots

-- whether the slot holds the object of a marked cell
abbrev pub holds_marked : List Bool → Slot → Bool
holds_marked marked slot = option_map_or (is_flagged marked) slot.held false

-- the slot, emptied if it holds the object of a marked cell
abbrev pub slot_cleared : List Bool → Slot → Slot
slot_cleared marked slot = if holds_marked marked slot then record slot { held = None } else slot

-- the object with no slot that holds the object of a marked cell
abbrev pub resident_cleared : List Bool → Resident → Resident
resident_cleared marked o = record o { slots = map (slot_cleared marked) o.slots }

-- how many slots of the object hold the object of a marked cell
abbrev pub holders_in : List Bool → Resident → ℕ
holders_in marked o = count_by (holds_marked marked) o.slots

-- ---- what the cells hold

-- what a cell holds, if anything
abbrev pub held_at : List (Option Resident) → ℕ → Option Resident
held_at cells cell = slice_index_or cells cell None

abbrev pub is_taken : List (Option Resident) → ℕ → Bool
is_taken cells cell = is_some (held_at cells cell)

-- the id of the object in a cell
abbrev pub id_held : List (Option Resident) → ℕ → Option ℕ
id_held cells cell = option_map (λ o. o.id) (held_at cells cell)

-- the cell that the next object takes: the first empty one, and where none is empty a new last one
abbrev pub next_cell : List (Option Resident) → ℕ
next_cell cells = position_or_len (λ c. not (is_some c)) cells

-- the cells with one object more
abbrev pub with_resident : List (Option Resident) → Resident → List (Option Resident)
with_resident cells o =
    if nat_lt (next_cell cells) (length cells) then slice_set cells (next_cell cells) (Some o) else cells ++ Some o ∷ []

-- what a cell holds after those that are not kept were emptied
abbrev pub held_after : List Bool → List (Option Resident) → ℕ → Option Resident
held_after kept cells cell = if is_flagged kept cell then option_map (resident_after kept) (held_at cells cell) else None

-- The strong slots of what kept cells hold hold nothing that stands in a cell that is not kept.
abbrev pub StrongLeadToKept : List Bool → List (Option Resident) → Type 0
StrongLeadToKept kept cells = (cell : ℕ) → IsTrue (is_flagged kept cell) → IfSome (held_at cells cell) (StrongHoldKept kept)

-- how many slots of the object that a cell holds, if any, hold the object of a marked cell
abbrev pub holders_held : List Bool → Option Resident → ℕ
holders_held marked held = option_map_or (holders_in marked) held 0
