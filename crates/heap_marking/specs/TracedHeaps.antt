-- The heap that a table and roles by cell stand for, and what the passes and tallies of a trace say of it.
use Rattle.std.specs.Prelude.{◌≡◌, ℕ, ◌==◌, List, length, Bool, ◌&&◌, IsTrue, Some, None, slice_get}
use Rattle.std.specs.List.{list_any, range_with_len}
use Rattle.assert_registry.specs.Laws.{StandFor}
use Rattle.heap_base.specs.Counting.{bit, is_positive, total}
use Rattle.graph_meaning.specs.Assertions.{is_ownee, finds, is_traced, traced_ids, is_met, reference_count}
use Rattle.graph_meaning.specs.Collecting.{instances}
use Rattle.graph_meaning.specs.Heap.{Heap, targets}
use Rattle.graph_meaning.specs.Reach.{has_id}
use Rattle.graph_meaning.specs.Roles.{RoleTable, AreRolesOf}
use Rattle.header_rule.specs.declared.mark.Mark.TheVariants.{Found, MetByRoots}
use Rattle.header_rule.specs.Passes.{all_adds, all_marks}
use Rattle.object_table.specs.Placed.{PlacedTable, id_in, IsPlaced, IsSound}
use Rattle.scan_job.specs.Cells.{graph_of}
use Rattle.scan_job.specs.States.{ScanState, passes_of}
use Rattle.heap_marking.specs.TracedCells.{all_tallies, AreTraced}

-- the first object was asserted to be the owner of the second
abbrev pub owns : Heap → ℕ → ℕ → Bool
owns h owner ownee = list_any (λ o. o.0 == ownee && o.1 == owner) h.owners

-- By these jobs the heap was traced.
-- count: each object was met once for each reference to it
-- kept: what was met is what is traced
-- empty: an empty cell was not met
-- instances: the tallies count the traced objects of each type
-- traced: so many cells were met as objects are traced
-- found: whatever is marked found is found by its owner
-- marked: an ownee that a slot of its owner leads to is marked found
-- met: an ownee that is met by roots is marked so
pub record HeapIsTraced (p : PlacedTable) (h : Heap) (js : List ScanState) : Type 0 where
  pub count : (cell id : ℕ) → id_in p cell ≡ Some id → all_adds cell (passes_of js) ≡ reference_count h id
  pub kept : (cell id : ℕ) → id_in p cell ≡ Some id → is_positive (all_adds cell (passes_of js)) ≡ is_traced h id
  pub empty : (cell : ℕ) → id_in p cell ≡ None → all_adds cell (passes_of js) ≡ 0
  pub instances : (kind : ℕ) (name : List ℕ) → slice_get p.table.kinds kind ≡ Some name → all_tallies kind js ≡ length (instances h name)
  pub traced : total (λ cell. bit (is_positive (all_adds cell (passes_of js)))) (range_with_len 0 (length p.cells)) ≡ length (traced_ids h)
  pub found : (cell id : ℕ) → id_in p cell ≡ Some id → IsTrue (is_positive (all_marks Found cell (passes_of js))) → (owner : ℕ) × IsTrue (owns h owner id) × IsTrue (finds h owner id)
  pub marked : (cell id owner : ℕ) → id_in p cell ≡ Some id → IsTrue (owns h owner id) → IsTrue (has_id (targets h.table owner) id) → IsTrue (is_positive (all_marks Found cell (passes_of js)))
  pub met : (cell id : ℕ) → id_in p cell ≡ Some id → IsTrue (is_ownee h id) → IsTrue (is_met h id) → IsTrue (is_positive (all_marks MetByRoots cell (passes_of js)))

-- Where the graph of a table and its roles is traced by cells, so is the heap that they stand for.
abbrev pub CellsTraceHeaps : Type 0
CellsTraceHeaps =
    (p : PlacedTable) (r : RoleTable) (h : Heap) (js : List ScanState) → IsPlaced p → IsSound p.table → AreRolesOf p.cells (length p.table.kinds) r →
    StandFor p r h → AreTraced (graph_of p r) js → HeapIsTraced p h js
