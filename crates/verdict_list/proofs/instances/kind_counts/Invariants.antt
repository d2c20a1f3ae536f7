use Rattle.std.proofs.Common.{◌≡◌, ◌++◌, length, map, drop}
use Rattle.std.specs.List.{All}
use Rattle.verdict_list.specs.Kinds.{IsCountedBy, IsSeenIn}
use Rattle.verdict_list.proofs.instances.kind_counts.Given as goal

abbrev pub invariant-loop-kind : goal.invariant-loop-kind
invariant-loop-kind g l = record {
  kinds : map (λ c. c.kind) l.counts.items ++ drop l.kind-index l.kinds ≡ l.kinds;
  many : length l.counts.items ≡ l.kind-index;
  seen : All (IsSeenIn l.counted.table.now) l.counts.items;
  each : All (IsCountedBy l.counted.roles.now (g.T.HeapCounts.counts l.counted.counts.now) l.places) l.counts.items;
}
