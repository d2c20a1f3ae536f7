use Rattle.std.proofs.Common.{length}
use Rattle.steal_pool.proofs.seating.+seat_jobs.Given as goal

abbrev pub decreases-seat_jobs : goal.decreases-seat_jobs
decreases-seat_jobs g l = length l.places.now
