use Rattle.std.proofs.Common.{length}
use Rattle.steal_pool.proofs.seating.+begin_all.Given as goal

abbrev pub decreases-begin_all : goal.decreases-begin_all
decreases-begin_all g l = length l.places.now
