use Rattle.std.proofs.Common.{length}
use Rattle.steal_pool.proofs.seating.+unseat_jobs.Given as goal

abbrev pub decreases-unseat_jobs : goal.decreases-unseat_jobs
decreases-unseat_jobs g l = length l.places.now
