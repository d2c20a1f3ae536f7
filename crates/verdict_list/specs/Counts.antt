-- What was counted in a heap, and what it says of the heap.
use Rattle.std.specs.Prelude.{◌≡◌, ℕ, ◌+◌, ◌*◌, List, length, Bool, false, nat_le, Some, slice_get, slice_index, slice_index_or}
use Rattle.std.specs.Option.{option_map_or}
use Rattle.heap_base.specs.declared.limits.TheConstants.{MOST_OBJECTS, MOST_KINDS}
use Rattle.graph_meaning.specs.Assertions.{is_traced, reference_count}
use Rattle.graph_meaning.specs.Collecting.{instances}
use Rattle.graph_meaning.specs.Heap.{Heap}
use Rattle.graph_meaning.specs.Roles.{RoleTable}
use Rattle.object_table.specs.Placed.{PlacedTable, id_in, cell_of}
use Rattle.assert_registry.specs.Laws.{StandFor}

-- How many cells there are, and for each of them how many references were counted to its object; for each type how many of its
-- objects are traced; and for each cell whether its object is traced.
pub record CountTable : Type 0 where
  pub cells : ℕ
  pub references : ℕ → ℕ
  pub instances : List ℕ
  pub kept : List Bool

-- for each type the number of its traced objects
abbrev pub CountsInstances : PlacedTable → Heap → List ℕ → Type 0
CountsInstances p h counts = (kind : ℕ) (name : List ℕ) → slice_get p.table.kinds kind ≡ Some name → slice_index counts kind ≡ length (instances h name)

-- The counts are those of the heap whose table is placed so. The numbers of references need not be right: they tell what is
-- referred to more than once.
-- kept: a cell is kept exactly where its object is traced
-- many: the count is two or more exactly where there are two references or more
-- instances: for each type the number of its traced objects
pub record AreCountsOf (p : PlacedTable) (h : Heap) (t : CountTable) : Type 0 where
  pub cells : t.cells ≡ length p.cells
  pub each : length t.kept ≡ length p.cells
  pub kinds : length t.instances ≡ length p.table.kinds
  pub kept : (cell id : ℕ) → id_in p cell ≡ Some id → slice_index_or t.kept cell false ≡ is_traced h id
  pub many : (cell id : ℕ) → id_in p cell ≡ Some id → nat_le 2 (t.references cell) ≡ nat_le 2 (reference_count h id)
  pub instances : CountsInstances p h t.instances

-- The heap is that of the table and of these roles, and the counts are its.
pub record CountsHeap (p : PlacedTable) (r : RoleTable) (t : CountTable) (h : Heap) : Type 0 where
  pub stand : StandFor p r h
  pub counts : AreCountsOf p h t

-- the count in the cell of the object with this id
abbrev pub counted_in : PlacedTable → CountTable → ℕ → ℕ
counted_in p t id = option_map_or t.references (cell_of p id) 0

-- there is one verdict at most of each object for each of two assertions, and of each type
abbrev pub most_first_verdicts : ℕ
most_first_verdicts = 2 * MOST_OBJECTS + MOST_KINDS
