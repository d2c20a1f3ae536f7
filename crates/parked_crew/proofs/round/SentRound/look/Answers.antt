use Rattle.std.proofs.Common.{rules, Some}
use Rattle.parked_crew.proofs.Turns.{can_look}
use Rattle.parked_crew.proofs.Holds.{has_first}
use Rattle.parked_crew.proofs.round.SentRound.look.Goals as goal

pub load-requires : goal.load-requires
load-requires g c = (search rules, search rules, can_look _ _ _ _ c.self.invariant.1)

pub exchange-requires : goal.exchange-requires
exchange-requires g c = let has = c.load.ensures.2.0 (search rules) in (search rules, (Some has.0, has_first _ _ _ _ has.1))
