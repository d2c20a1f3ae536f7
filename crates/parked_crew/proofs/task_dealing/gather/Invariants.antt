use Rattle.std.proofs.Common.{◌≡◌, ◌++◌, take}
use Rattle.parked_crew.specs.Progress.{all_left}
use Rattle.parked_crew.proofs.task_dealing.gather.Given as goal

abbrev pub invariant-loop-share : goal.invariant-loop-share
invariant-loop-share g l = l.tasks.items ≡ l.fn.tasks.items ++ all_left (take l.share-index l.shares)

abbrev pub invariant-loop-task : goal.invariant-loop-task
invariant-loop-task g l = l.tasks.items ≡ l.initial.tasks.items ++ take l.task-index l.task-items
