use Rattle.steal_pool.proofs.RuleSteps.{forks}
use Rattle.steal_pool.proofs.deque.split.Goals as goal

pub another-requires : goal.another-requires
another-requires c = forks _ _ c.requires
