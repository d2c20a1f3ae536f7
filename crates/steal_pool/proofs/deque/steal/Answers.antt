use Rattle.std.proofs.Common.{ap, min}
use Rattle.steal_pool.proofs.RuleSteps.{takes, finds_few}
use Rattle.steal_pool.proofs.deque.steal.Goals as goal

pub steal_as-requires-clause-takes : goal.steal_as-requires-clause-takes
steal_as-requires-clause-takes c = takes _ _ c.requires.hand

pub steal_as-requires-clause-empty : goal.steal_as-requires-clause-empty
steal_as-requires-clause-empty c = finds_few _ _ _ (ap (λ k. min k 1) c.requires.table.1)
