use Rattle.std.proofs.Common.{◌≡◌, ◌+◌, length, drop}
use Rattle.graph_meaning.specs.Collecting.{unshared_verdict}
use Rattle.graph_meaning.specs.Heap.{Heap}
use Rattle.graph_meaning.specs.Roles.{id_at}
use Rattle.verdict_list.specs.Listed.{ShowsPaths, KnowsFirst}
use Rattle.verdict_list.specs.Counts.{counted_in}
use Rattle.verdict_list.proofs.GoingOn.{HasGoneOn}
use Rattle.verdict_list.proofs.unshared.push_all.Given as goal

abbrev pub invariant-loop-place : goal.invariant-loop-place
invariant-loop-place g l = record {
  gone : (h : Heap) → ShowsPaths l.plain h → KnowsFirst l.plain h l.shared →
      HasGoneOn l.plain.most
      (λ cell. unshared_verdict (counted_in l.plain.table.now (g.T.HeapCounts.counts l.traced)) h (id_at l.plain.table.now.cells cell)) l.fn.list
      l.list (drop l.place l.shared.cells.now) l.shared.cells.now;
  number : length l.list ≡ length l.fn.list + l.place;
}
