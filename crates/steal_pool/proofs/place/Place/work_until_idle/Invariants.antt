use Rattle.std.proofs.Common.{◌+◌, ◌-◌, ◌*◌, ◌≤◌}
use Rattle.steal_pool.specs.Lanes.{HasTakenFew}
use Rattle.steal_pool.specs.Workers.{EndsWork, tasks_left}
use Rattle.steal_pool.proofs.place.Place.work_until_idle.Given as goal

abbrev pub invariant-loop-idle : goal.invariant-loop-idle
invariant-loop-idle g l = record {
  went : EndsWork g.J.Job.meaning l.shared l.fn.self l.self;
  few : HasTakenFew l.self.lane;
  idle : l.idle ≤ l.fn.limit.patience;
}

abbrev pub decreases-loop-idle : goal.decreases-loop-idle
decreases-loop-idle g l = tasks_left g.J.Job.meaning l.self * 4097 + (4096 - l.idle)
