-- What the result of a trace says of a heap.
use Rattle.std.specs.Prelude.{◌≡◌, ℕ, List, length, false, IsTrue, nat_le, Some, None, slice_get, slice_index, slice_index_or}
use Rattle.graph_meaning.specs.Assertions.{is_ownee, finds, is_traced, traced_ids, is_met, reference_count}
use Rattle.graph_meaning.specs.Collecting.{instances}
use Rattle.graph_meaning.specs.Heap.{Heap, targets}
use Rattle.graph_meaning.specs.Reach.{has_id}
use Rattle.header_rule.specs.ClosedWords.{count_in, has_mark_in}
use Rattle.header_rule.specs.declared.mark.Mark.TheVariants.{Found, MetByRoots}
use Rattle.object_table.specs.Placed.{PlacedTable, id_in}
use Rattle.heap_marking.specs.Results.{TraceResult}
use Rattle.heap_marking.specs.TracedHeaps.{owns}

-- The result says what is traced in the heap whose table is placed so. Its counts need not be the numbers of references: they tell
-- what is traced, and what is referred to more than once.
-- kept: a cell is kept exactly where its object is traced
-- empty: an empty cell is not kept
-- many: the count is two or more exactly where there are two references or more
-- instances: for each type the number of its traced objects
-- traced: how many objects are traced
-- found: whatever is marked found is found by its owner
-- marked: an ownee to which a slot of its owner leads is marked found
-- met: an ownee that is met is marked as met by roots
pub record IsTraceOf (p : PlacedTable) (h : Heap) (t : TraceResult) : Type 0 where
  pub cells : t.words.cells ≡ length p.cells
  pub each : length t.kept ≡ length p.cells
  pub kinds : length t.instances ≡ length p.table.kinds
  pub kept : (cell id : ℕ) → id_in p cell ≡ Some id → slice_index_or t.kept cell false ≡ is_traced h id
  pub empty : (cell : ℕ) → id_in p cell ≡ None → slice_index_or t.kept cell false ≡ false
  pub many : (cell id : ℕ) → id_in p cell ≡ Some id → nat_le 2 (count_in t.words cell) ≡ nat_le 2 (reference_count h id)
  pub instances : (kind : ℕ) (name : List ℕ) → slice_get p.table.kinds kind ≡ Some name → slice_index t.instances kind ≡ length (instances h name)
  pub traced : t.traced ≡ length (traced_ids h)
  pub found : (cell id : ℕ) → id_in p cell ≡ Some id → IsTrue (has_mark_in Found t.words cell) → (owner : ℕ) × IsTrue (owns h owner id) × IsTrue (finds h owner id)
  pub marked : (cell id owner : ℕ) → id_in p cell ≡ Some id → IsTrue (owns h owner id) → IsTrue (has_id (targets h.table owner) id) → IsTrue (has_mark_in Found t.words cell)
  pub met : (cell id : ℕ) → id_in p cell ≡ Some id → IsTrue (is_ownee h id) → IsTrue (is_met h id) → IsTrue (has_mark_in MetByRoots t.words cell)

-- The count of each object's cell is the number of references to it.
abbrev pub CountsReferences : PlacedTable → Heap → TraceResult → Type 0
CountsReferences p h t = (cell id : ℕ) → id_in p cell ≡ Some id → count_in t.words cell ≡ reference_count h id
