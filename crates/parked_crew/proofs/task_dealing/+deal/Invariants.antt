use Rattle.std.proofs.Common.{length}
use Rattle.parked_crew.proofs.task_dealing.+deal.Given as goal

abbrev pub decreases-deal : goal.decreases-deal
decreases-deal g l = length l.shares.now
