use Rattle.std.proofs.Common.{rules}
use Rattle.parked_crew.proofs.Turns.{can_send, can_split}
use Rattle.parked_crew.proofs.Holds.{view_seen}
use Rattle.parked_crew.proofs.round.ReadyRound.send.Goals as goal

pub swap-requires : goal.swap-requires
swap-requires g c = let r = c.self.invariant.2 in (search rules, search rules, can_send _ _ _ _ r.errand r.me r.to_do r.about)

pub split_seat-seat-requires : goal.split_seat-seat-requires
split_seat-seat-requires g c = (search rules, search rules, can_split _ _ _ (view_seen _ _ _ _ c.swap.ensures.2))
