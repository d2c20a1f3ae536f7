use Rattle.std.proofs.Common.{length}
use Rattle.steal_pool.proofs.lending.+lend_to_each.Given as goal

abbrev pub decreases-lend_to_each : goal.decreases-lend_to_each
decreases-lend_to_each g l = length l.takers.now
