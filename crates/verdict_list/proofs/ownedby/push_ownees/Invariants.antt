use Rattle.std.proofs.Common.{◌≡◌, ◌+◌, length, drop}
use Rattle.graph_meaning.specs.Collecting.{ownedby_verdict}
use Rattle.graph_meaning.specs.Heap.{Heap}
use Rattle.verdict_list.specs.Listed.{owned_pair, ChecksHeap}
use Rattle.verdict_list.proofs.GoingOn.{HasGoneOn}
use Rattle.verdict_list.proofs.ownedby.push_ownees.Given as goal

abbrev pub invariant-loop-cell : goal.invariant-loop-cell
invariant-loop-cell l = record {
  gone : (h : Heap) → ChecksHeap l.checked h →
      HasGoneOn l.paths (λ cell. ownedby_verdict h (owned_pair l.checked.table.now h cell)) l.fn.list l.list (drop l.cell-index l.cell-items) l.cell-items;
  number : length l.list ≡ length l.fn.list + l.cell-index;
}
