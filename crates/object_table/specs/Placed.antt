-- A table with the places of its objects: each cell holds one object or is empty.
use Rattle.std.specs.Prelude.{◌≡◌, ◌==◌, ℕ, ◌+◌, ◌<◌, ◌≤◌, List, [], ◌∷◌, length, All, Bool, true, false, IsTrue, if◌then◌else◌, Option, None, Some}
use Rattle.std.specs.Prelude.{IfSome, IsSome, option_and_then, position, slice_index_or}
use Rattle.std.specs.Option.{option_map_or}
use Rattle.std.specs.List.{cons_option, IsDistinct}
use Rattle.std.specs.List.Sorted.{IsStrictlySortedBy}
use Rattle.std.specs.Map.{keys_of}
use Rattle.std.specs.Str.{bytes_eq}
use Rattle.heap_base.specs.declared.limits.Limits.{Limits}
use Rattle.heap_base.specs.declared.limits.TheConstants.{MOST_OBJECTS}
use Rattle.graph_meaning.specs.Heap.{Slot, Object, Table, empty_slot, empty_table, name_cmp, object_at, is_live, is_seen, targets}
use Rattle.graph_meaning.specs.Reach.{has_id}
use Rattle.graph_meaning.specs.Assertions.{root_ids}
use Rattle.graph_meaning.specs.Laws.{AllLive, HoldsLive, IdsRise, IsWithinLimits}

-- The table, and for each cell the id of the object that it holds, if it holds one.
pub record PlacedTable : Type 0 where
  pub table : Table
  pub cells : List (Option ℕ)

-- the empty table under these limits
abbrev pub nothing_placed : Limits → PlacedTable
nothing_placed most = record { table = empty_table most; cells = [] }

-- the id of the object that a cell holds
abbrev pub id_in : PlacedTable → ℕ → Option ℕ
id_in p cell = slice_index_or p.cells cell None

-- whether a cell holds the object with this id
abbrev pub holds_id : ℕ → Option ℕ → Bool
holds_id id cell = option_map_or (λ x. x == id) cell false

-- the cell of the object with this id
abbrev pub cell_of : PlacedTable → ℕ → Option ℕ
cell_of p id = position (holds_id id) p.cells

-- the object that a cell holds
abbrev pub object_in : PlacedTable → ℕ → Option Object
object_in p cell = option_and_then (object_at p.table.objects) (id_in p cell)

-- the slots of the object that a cell holds
abbrev pub slots_in : PlacedTable → ℕ → List Slot
slots_in p cell = option_map_or (λ o. o.slots) (object_in p cell) []

-- a slot of the object that a cell holds
abbrev pub slot_in : PlacedTable → ℕ → ℕ → Slot
slot_in p cell slot = slice_index_or (slots_in p cell) slot empty_slot

-- Each object stands in one cell, and in no other.
pub record IsPlaced (p : PlacedTable) : Type 0 where
  pub few : length p.cells ≤ MOST_OBJECTS
  pub live : (cell id : ℕ) → id_in p cell ≡ Some id → IsTrue (is_live p.table id)
  pub somewhere : (id : ℕ) → IsTrue (is_live p.table id) → (cell : ℕ) × (id_in p cell ≡ Some id)
  pub once : (cell other id : ℕ) → id_in p cell ≡ Some id → id_in p other ≡ Some id → cell ≡ other

-- The ids of the objects rise, no type name stands twice, and each object's type was seen; the roots rise by the bytes of
-- their names; what roots name and slots hold is live; and nothing passes its limit.
pub record IsSound (t : Table) : Type 0 where
  pub ids : IdsRise t
  pub kinds : IsDistinct bytes_eq t.kinds
  pub seen : All (λ o. IsTrue (is_seen t.kinds o.kind)) t.objects
  pub names : IsStrictlySortedBy name_cmp (keys_of t.roots)
  pub roots : AllLive t (root_ids t)
  pub slots : All (λ o. All (HoldsLive t) o.slots) t.objects
  pub limits : IsWithinLimits t

-- how many cells there are with one object more: no more than before where one is empty
abbrev pub cells_for_one_more : PlacedTable → ℕ
cells_for_one_more p = if length p.cells == length p.table.objects then length p.cells + 1 else length p.cells

-- A new object takes a cell that was empty, or a new one where none was, and each other object keeps its cell.
pub record TakesCell (before after : PlacedTable) (id : ℕ) : Type 0 where
  pub taken : (cell : ℕ) × (id_in before cell ≡ None) × (id_in after cell ≡ Some id)
  pub others : (cell other : ℕ) → id_in before cell ≡ Some other → id_in after cell ≡ Some other
  pub count : length after.cells ≡ cells_for_one_more before

-- the ids of the objects whose cells are kept
abbrev pub kept_ids : List (Option ℕ) → List Bool → List ℕ
kept_ids [] kept = []
kept_ids (c ∷ cells) [] = []
kept_ids (c ∷ cells) (true ∷ kept) = cons_option c (kept_ids cells kept)
kept_ids (c ∷ cells) (false ∷ kept) = kept_ids cells kept

-- the ids of the objects in marked cells
abbrev pub marked_ids : List (Option ℕ) → List Bool → List ℕ
marked_ids cells marked = kept_ids cells marked

-- No root names and no edge of a kept object leads to an object that is not kept.
pub record LeadsToKept (t : Table) (kept : List ℕ) : Type 0 where
  pub by_roots : All (λ r. IsTrue (has_id kept r.1)) t.roots
  pub by_edges : (x y : ℕ) → IsTrue (has_id kept x) → IsTrue (has_id (targets t x) y) → IsTrue (has_id kept y)

-- Each kept object keeps its cell, and there are no more cells than before.
pub record KeepsCells (before after : PlacedTable) (kept : List ℕ) : Type 0 where
  pub others : (cell id : ℕ) → id_in before cell ≡ Some id → IsTrue (has_id kept id) → id_in after cell ≡ Some id
  pub count : length after.cells ≤ length before.cells

-- what the slot holds, weakly or not, is kept
abbrev pub HoldsOf : List ℕ → Slot → Type 0
HoldsOf kept slot = IfSome slot.held (λ id. IsTrue (has_id kept id))

-- Each kept object holds kept ones alone, weakly or not.
abbrev pub HoldKept : PlacedTable → List ℕ → Type 0
HoldKept p kept = (cell id : ℕ) → id_in p cell ≡ Some id → IsTrue (has_id kept id) → All (HoldsOf kept) (slots_in p cell)

-- No cell below that of the object is empty.
abbrev pub NoneEmptyBelow : PlacedTable → ℕ → Type 0
NoneEmptyBelow p id = (cell lower : ℕ) → id_in p cell ≡ Some id → lower < cell → IsSome (id_in p lower)

-- The objects with ids above this number stand in the order of their ids, and no cell below any of them is empty.
pub record IsStacked (p : PlacedTable) (number : ℕ) : Type 0 where
  pub full : (id : ℕ) → number < id → NoneEmptyBelow p id
  pub rising : (cell other id later : ℕ) → id_in p cell ≡ Some id → id_in p other ≡ Some later → number < id → id < later → cell < other
