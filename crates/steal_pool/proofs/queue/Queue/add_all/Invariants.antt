use Rattle.std.proofs.Common.{◌≡◌, ◌+◌, ◌++◌, take}
use Rattle.steal_pool.proofs.queue.Queue.add_all.Given as goal

abbrev pub invariant-loop-task : goal.invariant-loop-task
invariant-loop-task l = record {
  tasks : l.self.tasks ≡ l.fn.self.tasks ++ take l.task-index l.tasks;
  spare : l.self.spare + l.task-index ≡ l.fn.self.spare;
  room : l.self.room ≡ l.fn.self.room;
}
