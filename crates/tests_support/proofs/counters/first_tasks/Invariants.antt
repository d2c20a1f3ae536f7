use Rattle.std.proofs.Common.{◌≡◌}
use Rattle.tests_support.specs.CellTasks.{AreFirstTasks}
use Rattle.tests_support.proofs.counters.first_tasks.Given as goal

abbrev pub invariant-loop-worker : goal.invariant-loop-worker
invariant-loop-worker l = record {
  lists : AreFirstTasks l.fn.workers l.fn.cells l.first.lists;
  room : l.first.room ≡ 4;
}
