use Rattle.steal_pool.specs.Victims.{AreUntouched}
use Rattle.steal_pool.proofs.stealing.try_each.Given as goal

abbrev pub invariant-loop-other : goal.invariant-loop-other
invariant-loop-other l = AreUntouched l.fn.others l.others
