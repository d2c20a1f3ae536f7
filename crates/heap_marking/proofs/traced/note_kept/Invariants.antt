use Rattle.std.proofs.Common.{◌≡◌, ◌≤◌}
use Rattle.std.specs.Prelude.{vec_capacity, vec_len}
use Rattle.heap_marking.specs.Results.{kept_below, many_of}
use Rattle.heap_marking.proofs.traced.note_kept.Given as goal

abbrev pub invariant-loop-cell : goal.invariant-loop-cell
invariant-loop-cell l = record {
  kept : l.kept.items ≡ kept_below l.words l.cell;
  traced : l.traced ≡ many_of l.kept.items;
  few : l.traced ≤ l.cell;
  count : vec_len l.kept ≡ l.cell;
  room : vec_capacity l.kept ≡ vec_capacity l.fn.kept;
}
