use Rattle.steal_pool.specs.Lanes.{HasTakenFew}
use Rattle.steal_pool.specs.Workers.{EndsWork, tasks_left}
use Rattle.steal_pool.proofs.place.Place.work_until_empty.Given as goal

abbrev pub invariant-loop : goal.invariant-loop
invariant-loop g l = record {
  went : EndsWork g.J.Job.meaning l.shared l.fn.self l.self;
  few : HasTakenFew l.self.lane;
}

abbrev pub decreases-loop : goal.decreases-loop
decreases-loop g l = tasks_left g.J.Job.meaning l.self
