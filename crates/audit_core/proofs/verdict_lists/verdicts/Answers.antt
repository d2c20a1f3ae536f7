use Rattle.std.proofs.lemmas.Result.{IfOk-weaker}
use Rattle.graph_meaning.specs.Heap.{Heap}
use Rattle.object_table.specs.Placed.{PlacedTable}
use Rattle.heap_marking.specs.Results.{TraceResult}
use Rattle.heap_marking.specs.Traces.{IsTraceOf}
use Rattle.verdict_list.specs.Counts.{AreCountsOf}
use Rattle.audit_core.specs.Verdicts.{counts_of}
use Rattle.audit_core.proofs.verdict_lists.verdicts.Goals as goal

-- what a trace of the heap counted is counted of the heap
counts-are : (p : PlacedTable) (h : Heap) (t : TraceResult) → IsTraceOf p h t → AreCountsOf p h (counts_of t)
counts-are p h t trace = record {
  cells = trace.cells;
  each = trace.each;
  kinds = trace.kinds;
  kept = trace.kept;
  many = trace.many;
  instances = trace.instances;
}

pub all_verdicts-requires-clause-counts : goal.all_verdicts-requires-clause-counts
all_verdicts-requires-clause-counts c =
    let (h, stand, trace) = c.requires.trace in
    (h, record { stand = stand; counts = counts-are c.args.table.now h c.args.traced.now trace }, c.in_ok-check.ensures.violating h stand trace)

pub returns : goal.returns
returns c = record {
  verdicts =
      IfOk-weaker c.all_verdicts.result _ _
      (λ v are h stand trace. are h (record { stand = stand; counts = counts-are c.args.table.now h c.args.traced.now trace }) (c.in_ok-check.ensures.violating h stand trace))
      c.all_verdicts.ensures.verdicts;
}
