use Rattle.std.proofs.Common.{◌≡◌, ◌≤◌, ℕ, length, get_or, None}
use Rattle.std.specs.Option.{IsSome, IfSome}
use Rattle.graph_meaning.specs.Heap.{Heap}
use Rattle.object_table.specs.Placed.{id_in}
use Rattle.assert_registry.specs.Laws.{StandFor}
use Rattle.object_paths.specs.References.{KeptAreTraced}
use Rattle.verdict_list.proofs.Counting.{AreCounted}
use Rattle.verdict_list.proofs.past_limit.first_past_limits.Given as goal

abbrev pub invariant-loop-number : goal.invariant-loop-number
invariant-loop-number l = record {
  counts : length l.counts.items ≡ length l.table.table.kinds;
  places : length l.places.items ≡ length l.table.table.kinds;
  few : (kind : ℕ) → get_or l.counts.items kind 0 ≤ l.number;
  held : (kind : ℕ) → IfSome (get_or l.places.items kind None) (λ cell. IsSome (id_in l.table cell));
  counted : (h : Heap) → StandFor l.table l.roles h → KeptAreTraced l.table h l.kept → AreCounted l.table l.roles h l.counts.items l.places.items l.number;
}
