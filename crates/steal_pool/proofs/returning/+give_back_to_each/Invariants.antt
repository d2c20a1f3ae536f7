use Rattle.std.proofs.Common.{length}
use Rattle.steal_pool.proofs.returning.+give_back_to_each.Given as goal

abbrev pub decreases-give_back_to_each : goal.decreases-give_back_to_each
decreases-give_back_to_each g l = length l.owners.now
