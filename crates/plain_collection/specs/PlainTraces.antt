-- What a trace on one thread tells of a heap.
use Rattle.std.specs.Prelude.{◌≡◌, ℕ, length, Some, slice_index}
use Rattle.graph_meaning.specs.Assertions.{reference_count}
use Rattle.graph_meaning.specs.Heap.{Heap}
use Rattle.graph_meaning.specs.Roles.{RoleTable}
use Rattle.object_table.specs.Placed.{PlacedTable, id_in}
use Rattle.verdict_list.specs.Counts.{CountTable, CountsHeap}
use Rattle.plain_collection.specs.declared.plain_trace.PlainTrace.{PlainTrace}

-- what was counted
abbrev pub plain_counts : PlainTrace → CountTable
plain_counts t = record {
  cells = length t.references.items;
  references = slice_index t.references.items;
  instances = t.instances.items;
  kept = t.kept.items;
}

-- What was counted is counted of the heap, which has this table and these roles, and the count of each object's cell is the number of
-- references to it.
pub record IsPlainTraceOf (p : PlacedTable) (r : RoleTable) (h : Heap) (t : PlainTrace) : Type 0 where
  pub counts : CountsHeap p r (plain_counts t) h
  pub references : (cell id : ℕ) → id_in p cell ≡ Some id → slice_index t.references.items cell ≡ reference_count h id
