use Rattle.steal_pool.proofs.RuleSteps.{merges}
use Rattle.steal_pool.proofs.deque.join.Goals as goal

pub absorb-requires-clause-rule : goal.absorb-requires-clause-rule
absorb-requires-clause-rule c = merges _ _ _ _ c.requires.rights.0 c.requires.rights.1
