use Rattle.std.proofs.Common.{◌≡◌, ℕ, ◌+◌, length, not, IsTrue, IsSome}
use Rattle.std.specs.Prelude.{count_by, vec_len}
use Rattle.graph_meaning.specs.Reach.{has_id}
use Rattle.object_table.specs.Placed.{id_in}
use Rattle.minor_gc.specs.Marks.{MarkSearch, IsMarkSearch, IsMarking}
use Rattle.minor_gc.specs.Searches.{marks_of}
use Rattle.minor_gc.proofs.search.Search.run.Given as goal

abbrev pub invariant-loop-cell : goal.invariant-loop-cell
invariant-loop-cell l = record {
  each : length l.self.marks.items ≡ length l.fn.self.marks.items;
  work : (cell : ℕ) → IsTrue (has_id l.self.work.items cell) → IsSome (id_in l.table cell);
  searching : (q : MarkSearch) → q.placed ≡ l.table → IsMarkSearch q → IsMarking q (marks_of l.fn.self) → IsMarking q (marks_of l.self);
}

abbrev pub decreases-loop-cell : goal.decreases-loop-cell
decreases-loop-cell l = count_by not l.self.marks.items + vec_len l.self.work
