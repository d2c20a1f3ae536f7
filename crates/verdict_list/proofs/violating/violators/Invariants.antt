use Rattle.std.proofs.Common.{◌≤◌, length, map, Some}
use Rattle.graph_meaning.specs.Heap.{Heap, ids}
use Rattle.object_table.specs.Placed.{id_in}
use Rattle.verdict_list.specs.Counts.{CountsHeap}
use Rattle.verdict_list.specs.Violating.{is_violated_by, violators}
use Rattle.verdict_list.proofs.ByIds.{AreGathered}
use Rattle.verdict_list.proofs.violating.violators.Given as goal

abbrev pub invariant-loop-number : goal.invariant-loop-number
invariant-loop-number g l = record {
  gathered : (h : Heap) → CountsHeap l.counted.table.now l.counted.roles.now (g.T.HeapCounts.counts l.counted.counts.now) h →
      AreGathered (id_in l.counted.table.now) (is_violated_by l.assertion h) (map Some (violators l.assertion h)) (ids l.counted.table.now.table) l.cells.items l.number;
  few : length l.cells.items ≤ l.number;
}
