use Rattle.steal_pool.proofs.RuleSteps.{takes, finds}
use Rattle.steal_pool.proofs.deque.take.Goals as goal

pub pop_as-requires-clause-fifo : goal.pop_as-requires-clause-fifo
pop_as-requires-clause-fifo c = λ _. takes _ _ c.requires.hand

pub pop_as-requires-clause-empty : goal.pop_as-requires-clause-empty
pop_as-requires-clause-empty c = finds _ _
