use Rattle.std.proofs.Common.{◌≤◌, length}
use Rattle.std.specs.List.Sorted.{IsStrictlySortedBy}
use Rattle.std.specs.Map.{keys_of}
use Rattle.std.specs.String.{string_cmp}
use Rattle.verdict_list.proofs.OverLimits.{HasOver}
use Rattle.verdict_list.proofs.over_limit.by_name.Given as goal

abbrev pub invariant-loop-kind : goal.invariant-loop-kind
invariant-loop-kind g l = record {
  sorted : IsStrictlySortedBy string_cmp (keys_of l.numbers.entries);
  has : HasOver l.counted.table.now l.counted.roles.now (g.T.HeapCounts.counts l.counted.counts.now) l.numbers l.kind;
  few : length l.numbers.entries ≤ l.kind;
}
