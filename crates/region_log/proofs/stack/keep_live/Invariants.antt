use Rattle.std.proofs.Common.{◌≡◌, ◌<◌, ◌≤◌, ℕ, length, get_or}
use Rattle.std.proofs.lemmas.List.Filters.{FiltersInPlace}
use Rattle.graph_meaning.specs.Heap.{is_live}
use Rattle.region_log.specs.Regions.{start_kept}
use Rattle.region_log.proofs.Fronts.{map_first}
use Rattle.region_log.proofs.stack.keep_live.Given as goal

-- the ids before the last start that was passed are filtered, those starts are moved, and the others are not before them
abbrev pub invariant-loop-start : goal.invariant-loop-start
invariant-loop-start l = record {
  filtered : FiltersInPlace (is_live l.table.table) l.fn.ids l.ids l.kept l.passed;
  moved : l.starts ≡ map_first (start_kept (is_live l.table.table) l.fn.ids) l.start-index l.fn.starts;
  ahead : (k : ℕ) → l.start-index ≤ k → k < length l.fn.starts → l.passed ≤ get_or l.fn.starts k 0;
}
