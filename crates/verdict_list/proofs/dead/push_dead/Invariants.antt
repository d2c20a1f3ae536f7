use Rattle.std.proofs.Common.{◌≡◌, ◌+◌, length, drop}
use Rattle.graph_meaning.specs.Collecting.{dead_verdict}
use Rattle.graph_meaning.specs.Heap.{Heap}
use Rattle.graph_meaning.specs.Roles.{id_at}
use Rattle.verdict_list.specs.Listed.{ShowsPaths}
use Rattle.verdict_list.proofs.GoingOn.{HasGoneOn}
use Rattle.verdict_list.proofs.dead.push_dead.Given as goal

abbrev pub invariant-loop-cell : goal.invariant-loop-cell
invariant-loop-cell l = record {
  gone : (h : Heap) → ShowsPaths l.plain h → HasGoneOn l.plain.most (λ cell. dead_verdict h (id_at l.plain.table.now.cells cell)) l.fn.list l.list (drop l.cell-index l.cells) l.cells;
  number : length l.list ≡ length l.fn.list + l.cell-index;
}
