use Rattle.std.proofs.Common.{rules, ap, ◌∙◌, None, ◌∷◌}
use Rattle.parked_crew.specs.declared.rule.Role.TheVariants.{Unsent}
use Rattle.parked_crew.specs.Rounds.{seen, Sat}
use Rattle.parked_crew.proofs.Turns.{makes, can_open}
use Rattle.parked_crew.proofs.Holds.{has_seen, put_in, if_zero}
use Rattle.parked_crew.proofs.round.ReadyRound.make.Goals as goal

pub vacant-requires : goal.vacant-requires
vacant-requires g c = makes _

pub swap-requires : goal.swap-requires
swap-requires g c = (search rules, search rules, can_open _ _ _ _ (has_seen _ _ _ _ c.in_ok-table.ensures.4))

pub invariant_of-result : goal.invariant_of-result
invariant_of-result g c =
    let before = c.in_ok-table.ensures.4 in
    let opened = c.swap.ensures.2 ∙ (if_zero _ _ _ c.if-swap-ne0.false ∙ ap (λ (z : Sat _). (seen Unsent z.0.start, (0, None) ∷ z.1)) before) in
    let put = put_in _ _ _ _ _ _ opened c.exchange.ensures.3 in (
      (search rules, search rules, search rules),
      search rules,
      record {
        errand = c.of-errand.result;
        me = has_seen _ _ _ _ put;
        to_do = search rules;
        about = search rules;
      },
    )
