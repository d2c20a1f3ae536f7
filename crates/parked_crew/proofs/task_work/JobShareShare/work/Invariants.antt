use Rattle.std.proofs.Common.{◌+◌, ◌-◌, length}
use Rattle.parked_crew.specs.Shares.{Goes}
use Rattle.parked_crew.proofs.task_work.JobShareShare.work.Given as goal

abbrev pub invariant-loop-task : goal.invariant-loop-task
invariant-loop-task g l = Goes g.J.Job.meaning l.fn.self l.self

abbrev pub decreases-loop-task : goal.decreases-loop-task
decreases-loop-task g l = length l.self.list.items + 512 - l.self.done
