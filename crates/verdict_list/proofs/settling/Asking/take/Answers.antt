use Rattle.std.proofs.Common.{List, [], ◌∷◌, ◌++◌, sym, subst}
use Rattle.verdict_list.specs.declared.settling.Ownership.{Ownership}
use Rattle.verdict_list.specs.Askings.{asked_in}
use Rattle.verdict_list.specs.Settling.{HasAsked}
use Rattle.verdict_list.proofs.Pairs.{asked-pair}
use Rattle.verdict_list.proofs.settling.Asking.take.Goals as goal

pub returns : goal.returns
returns c = record {
  asked = λ (pairs : List Ownership) was.
      let p = c.args.table.now in
      let r = c.args.roles.now in
      let next = c.in_ok-turn_to.ensures.asked pairs was in
      subst (λ ys. HasAsked p r (pairs ++ c.args.pair ∷ [])
      (record { found = c.turn_to.new.self.found.items; owner = c.turn_to.new.self.owner; ownees = ys })) (sym c.in_ok-push.ensures.items)
      (asked-pair p r pairs (asked_in c.turn_to.new.self) next c.args.pair c.in_ok-turn_to.ensures.owner c.requires.pair);
}
