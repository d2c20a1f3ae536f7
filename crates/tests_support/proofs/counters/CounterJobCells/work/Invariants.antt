use Rattle.std.proofs.Common.{◌≡◌, ◌+◌, List, ◌++◌, length}
use Rattle.steal_pool.specs.declared.task.Task.{Task}
use Rattle.steal_pool.specs.Jobs.{AllFit}
use Rattle.tests_support.specs.CellTasks.{tasks_below}
use Rattle.tests_support.proofs.counters.CounterJobCells.work.Given as goal

abbrev pub invariant-loop-cell : goal.invariant-loop-cell
invariant-loop-cell l = record {
  put : List Task;
  tasks : l.out.tasks ≡ l.fn.out.tasks ++ put;
  are_fit : AllFit (tasks_below l.shared.count) put;
  room : l.self.room + length put ≡ l.fn.self.room;
  count : l.from + length put ≡ l.cell;
  outbox : l.out.room ≡ l.fn.out.room;
  turns : l.self.turns + 1 ≡ l.fn.self.turns;
}
