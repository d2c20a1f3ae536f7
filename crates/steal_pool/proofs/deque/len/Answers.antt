use Rattle.steal_pool.proofs.RuleSteps.{settles}
use Rattle.steal_pool.proofs.deque.len.Goals as goal

pub len_as-requires : goal.len_as-requires
len_as-requires c = settles _ _
