-- What a table is made of: objects in cells, their ids with their cells, roots and type names.
use Rattle.std.specs.Prelude.{◌≡◌, ℕ, ◌==◌, ◌<◌, ◌≤◌, List, [], ◌∷◌, length, map, All, Bool, false, not, ◌||◌, ◌&&◌, if◌then◌else◌, IsTrue, Option}
use Rattle.std.specs.Prelude.{None, Some, IfSome, unwrap_or, option_and_then, slice_index_or}
use Rattle.std.specs.List.{AllPairs}
use Rattle.std.specs.Option.{option_map}
use Rattle.heap_base.specs.declared.limits.Limits.{Limits}
use Rattle.heap_base.specs.declared.limits.TheConstants.{MOST_OBJECTS}
use Rattle.heap_base.specs.Counting.{bit, times}
use Rattle.graph_meaning.specs.Heap.{Slot, Object, slot_count}
use Rattle.object_table.specs.declared.slot.Slot.{Slot as CellSlot}
use Rattle.object_table.specs.Located.{RisesById}
use Rattle.object_table.specs.Placed.{PlacedTable, IsSound}
use Rattle.object_table.specs.Residents.{Resident, held_at, id_held, is_flagged, is_taken}

-- The parts: what each cell holds; the ids of the objects, rising, each with its cell; the roots; the type names; the
-- greatest id that was allocated; how many slots all objects have; and the most that there may be.
pub record TableParts : Type 0 where
  pub cells : List (Option Resident)
  pub ids : List (ℕ × ℕ)
  pub roots : List (List ℕ × ℕ)
  pub kinds : List (List ℕ)
  pub greatest : ℕ
  pub slots : ℕ
  pub most : Limits

-- a slot, with the id of the object in the cell that it holds
abbrev pub slot_of : List (Option Resident) → CellSlot → Slot
slot_of cells s = record { held = option_and_then (id_held cells) s.held; weak = s.weak }

-- an object, with the name of its type and with what its slots hold
abbrev pub object_of : List (List ℕ) → List (Option Resident) → Resident → Object
object_of kinds cells o = record { id = o.id; kind = slice_index_or kinds o.kind []; slots = map (slot_of cells) o.slots }

-- what stands for the object in an empty cell, of which nothing is ever said
abbrev pub nobody : Resident
nobody = record { id = 0; kind = 0; slots = [] }

-- the object in a taken cell
abbrev pub object_at_cell : List (List ℕ) → List (Option Resident) → ℕ → Object
object_at_cell kinds cells cell = object_of kinds cells (unwrap_or (held_at cells cell) nobody)

-- how many slots the object in a taken cell has
abbrev pub slots_at_cell : List (Option Resident) → ℕ → ℕ
slots_at_cell cells cell = length (unwrap_or (held_at cells cell) nobody).slots

-- the table that the parts stand for, and which object each cell holds
abbrev pub placed_of : TableParts → PlacedTable
placed_of p = record {
  table = record { objects = map (λ e. object_at_cell p.kinds p.cells e.1) p.ids; roots = p.roots; greatest = p.greatest; kinds = p.kinds; most = p.most };
  cells = map (option_map (λ o. o.id)) p.cells;
}

-- the slot holds an object, or nothing
abbrev pub HoldsTaken : List (Option Resident) → CellSlot → Type 0
HoldsTaken cells s = IfSome s.held (λ cell. IsTrue (is_taken cells cell))

-- The ids rise, each stands for the object in its cell, and each object has one. Types are numbers of type names, and slots
-- hold taken cells.
pub record IsLaidOut (p : TableParts) : Type 0 where
  pub rising : RisesById p.ids
  pub stands : All (λ e. id_held p.cells e.1 ≡ Some e.0) p.ids
  pub once : (cell : ℕ) → times cell (map (λ e. e.1) p.ids) ≡ bit (is_taken p.cells cell)
  pub known : (cell : ℕ) → IfSome (held_at p.cells cell) (λ o. o.kind < length p.kinds)
  pub leads : (cell : ℕ) → IfSome (held_at p.cells cell) (λ o. All (HoldsTaken p.cells) o.slots)
  pub few : length p.cells ≤ MOST_OBJECTS

-- The parts are laid out, the slots are counted, and the table is sound.
pub record IsTable (p : TableParts) : Type 0 where
  pub laid : IsLaidOut p
  pub counted : p.slots ≡ slot_count (placed_of p).table
  pub sound : IsSound (placed_of p).table

-- ---- the objects of a part of the list of ids are freed

-- what a cell holds unless it was freed
abbrev pub held_unless : Bool → List (Option Resident) → ℕ → Option Resident
held_unless freed cells cell = if freed then None else held_at cells cell

-- whether the cell is that of one of these entries and not kept
abbrev pub is_freed : List Bool → List (ℕ × ℕ) → ℕ → Bool
is_freed kept [] cell = false
is_freed kept (e ∷ entries) cell = ((e.1 == cell) && not (is_flagged kept cell)) || is_freed kept entries cell

-- The cells of these entries rise, each holds an object, and so does each cell below one of them.
pub record StandInOrder (cells : List (Option Resident)) (entries : List (ℕ × ℕ)) : Type 0 where
  pub rising : AllPairs (λ a b. a.1 < b.1) entries
  pub full : All (λ e. (lower : ℕ) → lower ≤ e.1 → IsTrue (is_taken cells lower)) entries
