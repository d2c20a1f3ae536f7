use Rattle.std.proofs.Common.{◌≡◌, ◌<◌, ◌+◌, length, drop}
use Rattle.graph_meaning.specs.Collecting.{instances_verdict}
use Rattle.graph_meaning.specs.Heap.{Heap}
use Rattle.verdict_list.specs.Kinds.{named_count, TellOf}
use Rattle.verdict_list.specs.Listed.{ShowsPaths}
use Rattle.verdict_list.proofs.GoingOn.{HasGoneOn}
use Rattle.verdict_list.proofs.instances.push_instances.Given as goal

abbrev pub invariant-loop-count : goal.invariant-loop-count
invariant-loop-count l = record {
  gone : (h : Heap) → ShowsPaths l.plain h → TellOf l.plain.table.now h (length l.fn.list < l.plain.most) l.counts →
      HasGoneOn l.plain.most (λ c. instances_verdict h (named_count l.plain.table.now c)) l.fn.list l.list (drop l.count-index l.counts) l.counts;
  number : length l.list ≡ length l.fn.list + l.count-index;
}
