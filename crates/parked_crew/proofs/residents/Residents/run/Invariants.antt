use Rattle.std.proofs.Common.{◌≡◌}
use Rattle.std.specs.Arc.{arc_value}
use Rattle.std.specs.Prelude.{vec_len}
use Rattle.steal_pool.specs.Runs.{fit_tasks}
use Rattle.parked_crew.specs.TaskCrews.{workers_of}
use Rattle.parked_crew.specs.Progress.{Progress, most_left}
use Rattle.parked_crew.proofs.residents.Residents.run.Given as goal

abbrev pub invariant-loop-self : goal.invariant-loop-self
invariant-loop-self g l = let M = g.J.Job.meaning in let s = arc_value l.shared in record {
  gone : Progress M s (fit_tasks M s l.fn.jobs.items) l.first.lists l.fn.jobs.items l.shares.items;
  count : vec_len l.shares ≡ workers_of l.fn.self;
  crew : workers_of l.self ≡ workers_of l.fn.self;
}

abbrev pub decreases-loop-self : goal.decreases-loop-self
decreases-loop-self g l = most_left g.J.Job.meaning (arc_value l.shared) l.shares.items
