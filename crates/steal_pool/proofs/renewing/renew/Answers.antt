use Rattle.steal_pool.proofs.RuleSteps.{renews}
use Rattle.steal_pool.proofs.renewing.renew.Goals as goal

pub another-requires : goal.another-requires
another-requires g c = renews _ _ g.B.Terms.fit g.B.Terms.bound c.requires.hand.0 c.requires.hand.1 c.requires.emptied
