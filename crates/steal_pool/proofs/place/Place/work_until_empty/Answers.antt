use Rattle.steal_pool.proofs.PlaceTurns.{ends_same, ends_on}
use Rattle.steal_pool.proofs.place.Place.work_until_empty.Goals as goal

pub loop-init : goal.loop-init
loop-init g c = record { went = ends_same c.len.new.self c.requires.can c.len.ensures.hand c.len.ensures.deque; few = c.len.ensures.few c.requires.whole }

pub loop-preserved : goal.loop-preserved
loop-preserved g c = record { went = ends_on c.loop.invariant.went c.turn.ensures.went; few = c.turn.ensures.few }

pub returns-clause-went : goal.returns-clause-went
returns-clause-went g c = ends_on c.loop.invariant.went c.turn.ensures.went
