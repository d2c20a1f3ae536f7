use Rattle.std.proofs.Common.{◌+◌, length}
use Rattle.steal_pool.proofs.lane.Lane.begin.Given as goal

abbrev pub ghosts-renew : goal.ghosts-renew
ghosts-renew g a = record { fit = g.J.Job.meaning.fit a._job.now a._shared.now; bound = length a._first.now + g.J.Job.meaning.room a._job.now }
