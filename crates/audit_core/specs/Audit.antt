-- What an auditor stands for: a heap, the rules of its collections, and totals over the collections so far.
use Rattle.std.specs.Prelude.{ℕ, ◌+◌, List, [], length, Bool, Option}
use Rattle.heap_base.specs.declared.limits.Limits.{Limits}
use Rattle.graph_meaning.specs.declared.collection.Collection.{Collection}
use Rattle.graph_meaning.specs.Heap.{Heap, empty_heap}
use Rattle.graph_meaning.specs.Roles.{RoleTable, AreRolesOf}
use Rattle.graph_meaning.specs.Collecting.{Rules, after_collection, collection_counted, collection_of}
use Rattle.object_table.specs.Placed.{PlacedTable}
use Rattle.assert_registry.specs.Laws.{StandFor}
use Rattle.heap_parts.specs.Parts.{PlacedHeap}
use Rattle.heap_marking.specs.Results.{TraceResult}
use Rattle.verdict_list.specs.Counts.{counted_in}
use Rattle.audit_core.specs.Verdicts.{counts_of}

-- The heap as it stands; for each cell of its table the id of the object that it holds, if it holds one; the rules of
-- collections; how many were made, and how many verdicts they had together.
pub record Audit : Type 0 where
  pub heap : Heap
  pub cells : List (Option ℕ)
  pub rules : Rules
  pub collections : ℕ
  pub violations : ℕ

-- the heap's table with its cells
abbrev pub audit_table : Audit → PlacedTable
audit_table a = record { table = a.heap.table; cells = a.cells }

-- the auditor's heap, and the cells of its objects
abbrev pub heap_in : Audit → PlacedHeap
heap_in a = record { heap = a.heap; cells = a.cells }

-- so many paths are shown, and what is asserted dead is cut off or not
abbrev pub rules_with : ℕ → Bool → Rules
rules_with paths force = record { paths = paths; force = force }

-- an auditor at the beginning of a trace, with a heap under these limits
abbrev pub first_audit : Limits → Rules → Audit
first_audit most rules = record { heap = empty_heap most; cells = []; rules = rules; collections = 0; violations = 0 }

-- ---- collections

-- the next collection that an auditor makes
abbrev pub next_collection : Audit → Collection
next_collection a = collection_of a.rules (a.collections + 1) a.heap

-- the same with the counts of a trace, which need not be the numbers of references
abbrev pub next_counted : TraceResult → Audit → Collection
next_counted t a = collection_counted (counted_in (audit_table a) (counts_of t)) a.rules (a.collections + 1) a.heap

-- the auditor after its next collection
unfoldable pub after_next : Audit → Audit
after_next a = record a {
  heap = after_collection a.rules a.heap;
  collections = a.collections + 1;
  violations = a.violations + length (next_collection a).verdicts;
}

-- The roles are those of the auditor's heap, by the cells and types of its table.
pub record AreItsRoles (a : Audit) (r : RoleTable) : Type 0 where
  pub of_table : AreRolesOf a.cells (length a.heap.table.kinds) r
  pub of_heap : StandFor (audit_table a) r a.heap
