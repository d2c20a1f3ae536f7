use Rattle.std.proofs.Common.{◌≡◌}
use Rattle.std.specs.Prelude.{vec_capacity, vec_len}
use Rattle.heap_parts.specs.Parts.{dead_below}
use Rattle.heap_parts.proofs.clearing.dead_and_traced.Given as goal

abbrev pub invariant-loop-cell : goal.invariant-loop-cell
invariant-loop-cell l = record {
  flags : l.flags.items ≡ dead_below l.roles l.kept l.cell;
  count : vec_len l.flags ≡ l.cell;
  room : vec_capacity l.flags ≡ vec_capacity l.initial.flags;
}
