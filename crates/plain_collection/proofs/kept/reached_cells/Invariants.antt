use Rattle.std.proofs.Common.{◌≡◌, ◌<◌, ℕ, length, get_or, false}
use Rattle.std.specs.Prelude.{vec_capacity}
use Rattle.plain_collection.specs.Counting.{is_reached_in}
use Rattle.plain_collection.proofs.kept.reached_cells.Given as goal

abbrev pub invariant-loop-cell : goal.invariant-loop-cell
invariant-loop-cell l = record {
  room : vec_capacity l.kept ≡ vec_capacity l.initial.kept;
  each : length l.kept.items ≡ l.cell;
  reached : (cell : ℕ) → cell < l.cell → get_or l.kept.items cell false ≡ is_reached_in l.by_owners l.by_roots cell;
}
