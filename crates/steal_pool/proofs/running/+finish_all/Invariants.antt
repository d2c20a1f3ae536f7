use Rattle.std.proofs.Common.{length}
use Rattle.steal_pool.proofs.running.+finish_all.Given as goal

abbrev pub decreases-finish_all : goal.decreases-finish_all
decreases-finish_all g l = length l.places.now
