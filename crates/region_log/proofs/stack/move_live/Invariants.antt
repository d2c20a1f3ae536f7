use Rattle.std.proofs.Common.{◌≤◌, List, ℕ}
use Rattle.std.proofs.lemmas.List.Filters.{FiltersInPlace}
use Rattle.graph_meaning.specs.Heap.{is_live}
use Rattle.region_log.proofs.stack.move_live.Given as goal

-- what was filtered up to the range is filtered up to this place
abbrev pub invariant-loop-place : goal.invariant-loop-place
invariant-loop-place l = record {
  behind : l.end ≤ l.place;
  filtered : (all : List ℕ) → FiltersInPlace (is_live l.table.table) all l.fn.ids l.fn.kept l.fn.range.start → FiltersInPlace (is_live l.table.table) all l.ids l.end l.place;
}
