use Rattle.std.proofs.Common.{◌≡◌, ◌-◌, []}
use Rattle.std.specs.List.{All, range_with_len}
use Rattle.header_rule.specs.Rule.{new_view}
use Rattle.header_rule.specs.Passes.{IsSeated, IsFresh, numbers}
use Rattle.header_rule.proofs.making.others.Given as goal

abbrev pub invariant-loop-number : goal.invariant-loop-number
invariant-loop-number l = record {
  table : l.seat.table_id ≡ l.shared.table.shared.table_id;
  seat : l.seat.me ≡ (new_view (17 - l.number), []);
  passes : All (IsSeated l.shared l.workers) l.passes.items;
  numbers : numbers l.passes.items ≡ range_with_len 1 (l.number - 1);
  fresh : All IsFresh l.passes.items;
}
