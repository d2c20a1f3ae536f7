use Rattle.std.proofs.Common.{length}
use Rattle.steal_pool.proofs.lending.+lend_from_each.Given as goal

abbrev pub decreases-lend_from_each : goal.decreases-lend_from_each
decreases-lend_from_each g l = length l.givers.now
