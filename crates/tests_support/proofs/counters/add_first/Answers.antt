use Rattle.std.proofs.Common.{arith, List, length, ap, sym, subst}
use Rattle.steal_pool.specs.declared.task.Task.{Task}
use Rattle.tests_support.specs.CellTasks.{AreFirstTasks}
use Rattle.tests_support.proofs.CellTaskLemmas.{first_more}
use Rattle.tests_support.proofs.counters.add_first.Goals as goal

pub returns-then-of-clause-lists : goal.returns-then-of-clause-lists
returns-then-of-clause-lists c =
    let is = ap (λ (ts : List Task). length ts) c.of.ensures in
    let few = c.if-of.true in
    subst (AreFirstTasks c.args.workers c.args.cells) (sym c.add.ensures.lists)
    (first_more c.args.workers c.args.cells c.args.first.now.lists c.args.at.0 c.args.at.1 c.requires.lists c.if-worker-workers.true c.if-cell-cells.true (omega arith))
