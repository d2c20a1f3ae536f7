use Rattle.std.proofs.Common.{◌<◌, ◌≤◌, length, drop}
use Rattle.std.specs.List.{All}
use Rattle.object_table.proofs.ids.Ids.first_above.Given as goal

-- the ids from this place on are above the number
abbrev pub invariant-loop-place : goal.invariant-loop-place
invariant-loop-place l = record {
  within : l.place ≤ length l.self-inside.entries.items;
  after : All (λ e. l.number < e.0) (drop l.place l.self-inside.entries.items);
}

abbrev pub decreases-loop-place : goal.decreases-loop-place
decreases-loop-place l = l.place
