use Rattle.std.proofs.Common.{length}
use Rattle.steal_pool.proofs.returning.+take_back_from_each.Given as goal

abbrev pub decreases-take_back_from_each : goal.decreases-take_back_from_each
decreases-take_back_from_each g l = length l.givers.now
