use Rattle.std.proofs.Common.{rules, ap, sym, ◌∙◌, Some}
use Rattle.parked_crew.specs.Rounds.{Sat}
use Rattle.parked_crew.proofs.Turns.{can_begin, can_end}
use Rattle.parked_crew.proofs.Holds.{has_first, has_seen, put_in, came_out, same_start, alone}
use Rattle.parked_crew.proofs.round.Ticket.work.Goals as goal

pub swap-requires : goal.swap-requires
swap-requires g c = (search rules, search rules, can_begin _ _ _ _ c.args.self.fresh)

pub exchange-requires : goal.exchange-requires
exchange-requires g c = let has = c.swap.ensures.2 in (search rules, (Some has.0, has_first _ _ _ _ has.1))

pub swap-requires-2 : goal.swap-requires-2
swap-requires-2 g c =
    let has = c.swap.ensures.2 in
    let back = alone _ _ _ _ _ (put_in _ _ _ _ _ _ (put_in _ _ _ _ _ _ has.1 c.exchange.ensures.3) c.exchange-2.ensures.3) c.args.self.fresh in
    let e = c.carried_out-errand.ensures in
    let same = came_out _ _ _ c.in-Some.errand _ _ c.exchange.result has.1 c.exchange.ensures.2 c.in-Some.is in (
      search rules,
      search rules,
      can_end _ _ _ c.exchange-2.new.seat.me c.carried_out-errand.result (has_seen _ _ _ _ back) e.done
          (same_start _ c.carried_out-errand.result has.0 c.in-Some.errand has.3 same e.same ∙ sym (ap (λ (z : Sat _). z.0.start) back)),
    )
