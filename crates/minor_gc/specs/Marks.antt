-- A search over cells: which are marked, and those of them from which it has still to go on.
use Rattle.std.specs.Prelude.{◌≡◌, ◌⊎◌, ℕ, List, length, Bool, false, not, ◌||◌, ◌&&◌, IsTrue, Some, None, IsSome, slice_index_or}
use Rattle.graph_meaning.specs.Heap.{targets, is_live}
use Rattle.graph_meaning.specs.Reach.{Graph, has_id, IsReachable}
use Rattle.object_table.specs.Placed.{PlacedTable, id_in}

pub record Marks : Type 0 where
  pub marks : List Bool
  pub work : List ℕ

abbrev pub is_marked : Marks → ℕ → Bool
is_marked m cell = slice_index_or m.marks cell false

-- The cells of the objects with these ids were marked, and those that weren't before are on the worklist.
pub record MarksAll (p : PlacedTable) (ids : List ℕ) (before after : Marks) : Type 0 where
  pub each : length after.marks ≡ length before.marks
  pub marked : (cell id : ℕ) → id_in p cell ≡ Some id → is_marked after cell ≡ (is_marked before cell || has_id ids id)
  pub unheld : (cell : ℕ) → id_in p cell ≡ None → is_marked after cell ≡ is_marked before cell
  pub work : (cell : ℕ) → has_id after.work cell ≡ (has_id before.work cell || (is_marked after cell && not (is_marked before cell)))

-- A search in a placed table from these ids: which cells were marked before it, and its graph.
pub record MarkSearch : Type 0 where
  pub placed : PlacedTable
  pub before : Marks
  pub graph : Graph
  pub sources : List ℕ

-- The nodes of the graph are the objects whose cells weren't marked, and the edges are those of the table.
pub record IsMarkSearch (q : MarkSearch) : Type 0 where
  pub nodes : (cell id : ℕ) → id_in q.placed cell ≡ Some id → has_id q.graph.nodes id ≡ not (is_marked q.before cell)
  pub live : (id : ℕ) → IsTrue (has_id q.graph.nodes id) → IsTrue (is_live q.placed.table id)
  pub targets : (id : ℕ) → q.graph.targets id ≡ targets q.placed.table id
  pub passable : (id : ℕ) → IsTrue (q.graph.passable id)

-- what the edges of the object lead to is marked
abbrev pub IsScanned : PlacedTable → Marks → ℕ → Type 0
IsScanned p m id = (cell y : ℕ) → id_in p cell ≡ Some y → IsTrue (has_id (targets p.table id) y) → IsTrue (is_marked m cell)

-- Only what is reached was marked, and the search goes on from all of it.
pub record IsMarking (q : MarkSearch) (m : Marks) : Type 0 where
  pub stays : (cell : ℕ) → IsTrue (is_marked q.before cell) → IsTrue (is_marked m cell)
  pub unheld : (cell : ℕ) → id_in q.placed cell ≡ None → is_marked m cell ≡ is_marked q.before cell
  pub reached : (cell id : ℕ) → id_in q.placed cell ≡ Some id → IsTrue (is_marked m cell) → is_marked q.before cell ≡ false → IsReachable q.graph q.sources id
  pub waiting : (cell : ℕ) → IsTrue (has_id m.work cell) → IsTrue (is_marked m cell) × (is_marked q.before cell ≡ false) × IsSome (id_in q.placed cell)
  pub followed : (cell id : ℕ) → id_in q.placed cell ≡ Some id → IsTrue (is_marked m cell) → is_marked q.before cell ≡ false → IsTrue (has_id m.work cell) ⊎ IsScanned q.placed m id
  pub sources : (cell id : ℕ) → id_in q.placed cell ≡ Some id → IsTrue (has_id q.sources id) → IsTrue (is_marked m cell)
