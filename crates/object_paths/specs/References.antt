-- References by the cells of a table.
use Rattle.std.specs.Prelude.{◌≡◌, ℕ, ◌<◌, List, [], length, Bool, false, Option, Some, IfSome, slice_get, slice_index_or}
use Rattle.std.specs.Option.{option_map}
use Rattle.graph_meaning.specs.Assertions.{Reference, by_root, by_slot, is_traced, references}
use Rattle.graph_meaning.specs.Heap.{Heap, edge_of}
use Rattle.graph_meaning.specs.Roles.{id_at}
use Rattle.object_table.specs.Placed.{PlacedTable, id_in, slots_in, slot_in}
use Rattle.assert_registry.specs.Laws.{StandFor}
use Rattle.object_paths.specs.declared.cell_reference.CellReference.{CellReference}
use Rattle.object_paths.specs.declared.cell_reference.CellReference.TheVariants.{Root, Slot}
use Rattle.object_paths.specs.declared.cell_reference.FirstReferences.{FirstReferences}
use Rattle.object_paths.specs.declared.traced.TracedTable.{TracedTable}

-- the reference as a heap has it: a root by its name, or a slot by the id of its object and its number
abbrev pub reference_of : PlacedTable → CellReference → Reference
reference_of p (Root root) = by_root (slice_index_or p.table.roots root ([], 0)).0
reference_of p (Slot holder slot) = by_slot (id_at p.cells holder) slot

-- The reference is to the object with this id: the root names it, or an edge leads to it from the slot.
abbrev pub RefersTo : PlacedTable → CellReference → ℕ → Type 0
RefersTo p (Root root) id = option_map (λ r. r.1) (slice_get p.table.roots root) ≡ Some id
RefersTo p (Slot holder slot) id = (slot < length (slots_in p holder)) × (edge_of (slot_in p holder slot) ≡ Some id)

-- the kept cells are those of the traced objects
abbrev pub KeptAreTraced : PlacedTable → Heap → List Bool → Type 0
KeptAreTraced p h kept = (cell id : ℕ) → id_in p cell ≡ Some id → slice_index_or kept cell false ≡ is_traced h id

-- The heap is that of the table and the roles, and the kept cells are those of its traced objects.
pub record IsTracedTableOf (h : Heap) (t : TracedTable) : Type 0 where
  pub stand : StandFor t.table.now t.roles.now h
  pub keeps : KeptAreTraced t.table.now h t.kept.now

-- This is the reference, to the object with this id; and nothing where there is none.
pub record IsReference (p : PlacedTable) (id : ℕ) (reference : Option Reference) (r : Option CellReference) : Type 0 where
  pub is : option_map (reference_of p) r ≡ reference
  pub refers : IfSome r (λ r. RefersTo p r id)

-- The list of references to the object with this id starts with these two, or has fewer.
pub record StartList (p : PlacedTable) (id : ℕ) (references : List Reference) (found : FirstReferences) : Type 0 where
  pub first : IsReference p id (slice_get references 0) found.first
  pub second : IsReference p id (slice_get references 1) found.second

-- these are the first two references to the object with this id
abbrev pub AreFirstReferences : PlacedTable → Heap → ℕ → FirstReferences → Type 0
AreFirstReferences p h id found = StartList p id (references h id) found

-- these are the first two references to the object in each of the first of these cells
abbrev pub AreFirstOf : PlacedTable → Heap → List ℕ → List FirstReferences → Type 0
AreFirstOf p h cells found =
    (n cell : ℕ) (f : FirstReferences) → slice_get cells n ≡ Some cell → slice_get found n ≡ Some f → AreFirstReferences p h (id_at p.cells cell) f
