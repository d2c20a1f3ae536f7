use Rattle.std.proofs.Common.{◌≡◌, ◌-◌, ◌≤◌, length, vec_len, vec_capacity}
use Rattle.graph_meaning.specs.Owners.{with_padding}
use Rattle.graph_meaning.proofs.by_cell.pad.Given as goal

abbrev pub invariant-loop : goal.invariant-loop
invariant-loop g l = record {
  few : length l.fn.front.items ≤ l.counter;
  end : l.counter - length l.fn.front.items ≤ l.many - length l.fn.front.items;
  items : l.front.items ≡ with_padding l.fn.front.items l.counter l.value;
  many : vec_len l.front ≡ l.counter;
  room : vec_capacity l.front ≡ vec_capacity l.fn.front;
}
