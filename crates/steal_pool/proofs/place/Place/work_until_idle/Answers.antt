use Rattle.std.proofs.Common.{arith}
use Rattle.steal_pool.proofs.PlaceTurns.{ends_none, ends_on}
use Rattle.steal_pool.proofs.place.Place.work_until_idle.Goals as goal

pub loop-idle-init : goal.loop-idle-init
loop-idle-init g c = record { went = ends_none c.requires.can; few = c.requires.few; idle = omega (arith, c.requires.patience) }

pub loop-idle-preserved-then-turn : goal.loop-idle-preserved-then-turn
loop-idle-preserved-then-turn g c = record { went = ends_on c.loop-idle.invariant.went c.turn.ensures.went; few = c.turn.ensures.few; idle = omega (arith, c.requires.patience) }

pub loop-idle-preserved : goal.loop-idle-preserved
loop-idle-preserved g c =
    record { went = ends_on c.loop-idle.invariant.went c.turn.ensures.went; few = c.turn.ensures.few; idle = omega (arith, c.requires.patience, c.loop-idle-test.true) }

pub returns-then-is_nobody : goal.returns-then-is_nobody
returns-then-is_nobody g c = ends_on c.loop-idle.invariant.went c.turn.ensures.went
