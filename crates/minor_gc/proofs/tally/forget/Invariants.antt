use Rattle.std.proofs.Common.{◌≡◌, ℕ, ◌<◌, length, drop, get_or}
use Rattle.minor_gc.specs.Tallies.{HoldsOneOf}
use Rattle.minor_gc.proofs.tally.forget.Given as goal

-- only the counts of the objects from this one on aren't 0
abbrev pub invariant-loop-id : goal.invariant-loop-id
invariant-loop-id l = record {
  each : length l.counts.items ≡ length l.initial.counts.items;
  others : (cell : ℕ) → 0 < get_or l.counts.items cell 0 → HoldsOneOf l.table (drop l.id-index l.remembered) cell;
}
