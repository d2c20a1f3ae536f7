use Rattle.std.proofs.Common.{subst, sym}
use Rattle.tests_support.specs.CellTasks.{AreFirstTasks}
use Rattle.tests_support.proofs.CellTaskLemmas.{first_none}
use Rattle.tests_support.proofs.counters.first_tasks.Goals as goal

pub loop-worker-init : goal.loop-worker-init
loop-worker-init c = record { lists = subst (AreFirstTasks c.args.workers c.args.cells) (sym c.in_ok-first.ensures.lists) (first_none c.args.workers c.args.cells); room = c.in_ok-first.ensures.room }
