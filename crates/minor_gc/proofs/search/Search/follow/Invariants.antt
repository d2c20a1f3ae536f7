use Rattle.std.proofs.Common.{◌+◌, ◌≤◌, map, take, not}
use Rattle.std.specs.Prelude.{count_by, vec_len}
use Rattle.graph_meaning.specs.Heap.{edges_of}
use Rattle.object_table.specs.Placed.{slots_in}
use Rattle.minor_gc.specs.Marks.{MarksAll}
use Rattle.minor_gc.specs.Searches.{marks_of}
use Rattle.minor_gc.proofs.search.Search.follow.Given as goal

-- what the slots before this one hold is marked
abbrev pub invariant-loop-slot : goal.invariant-loop-slot
invariant-loop-slot l = record {
  meets : MarksAll l.table (map (λ e. e.1) (edges_of (take l.slot (slots_in l.table l.cell)))) (marks_of l.fn.self) (marks_of l.self);
  left : count_by not l.self.marks.items + vec_len l.self.work ≤ count_by not l.fn.self.marks.items + vec_len l.fn.self.work;
}
