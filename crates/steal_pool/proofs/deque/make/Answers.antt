use Rattle.steal_pool.proofs.RuleSteps.{opens}
use Rattle.steal_pool.proofs.deque.make.Goals as goal

pub fifo_as-requires : goal.fifo_as-requires
fifo_as-requires c = opens
