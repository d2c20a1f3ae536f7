use Rattle.std.proofs.Common.{◌≡◌, ◌<◌, ℕ, length}
use Rattle.std.specs.Prelude.{vec_capacity}
use Rattle.verdict_list.specs.Cells.{is_owned_cell}
use Rattle.verdict_list.specs.Settling.{flag_of}
use Rattle.verdict_list.proofs.unowned.owned_cells.Given as goal

abbrev pub invariant-loop-cell : goal.invariant-loop-cell
invariant-loop-cell l = record {
  room : vec_capacity l.owned ≡ vec_capacity l.initial.owned;
  each : length l.owned.items ≡ l.cell;
  owned : (cell : ℕ) → cell < l.cell → flag_of l.owned.items cell ≡ is_owned_cell l.roles l.under cell;
}
