use Rattle.std.proofs.Common.{arith, List, [], ◌∷◌, ◌++◌, ap, ◌∙◌, append_assoc, length-append}
use Rattle.steal_pool.specs.declared.task.Task.{Task}
use Rattle.tests_support.proofs.CellTaskLemmas.{task_of, fit-append}
use Rattle.tests_support.proofs.counters.CounterJobCells.work.Goals as goal

pub loop-cell-preserved : goal.loop-cell-preserved
loop-cell-preserved c =
    let k = c.loop-cell.invariant in
    let more = task_of c.loop-cell.cell ∷ [] in
    let room = k.room in
    let count = k.count in
    let len = length-append k.put more in
    let below = c.min.ensures in
    let least = c.min-to.ensures in
    let cap = c.saturating_add.ensures in
    let here = c.loop-cell-test.true in
    let same = c.count.ensures.0 in
    record {
      put = k.put ++ more;
      tasks = c.put.ensures.tasks ∙ (ap (λ (ts : List Task). ts ++ more) k.tasks ∙ append_assoc c.args.out.now.tasks k.put more);
      are_fit = fit-append c.args.shared.now.count k.put c.loop-cell.cell k.are_fit (omega arith);
      room = omega arith;
      count = omega arith;
      outbox = c.put.ensures.room ∙ k.outbox;
      turns = k.turns;
    }
