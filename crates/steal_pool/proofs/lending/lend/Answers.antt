use Rattle.std.proofs.Common.{arith, ◌++◌, [], ◌∷◌, map, refl, sym, subst, ap, ◌∙◌}
use Rattle.std.proofs.lemmas.List.{map-append}
use Rattle.std.specs.List.{AllByRecursion}
use Rattle.crossbeam_deque.specs.Handles.{worker_deque}
use Rattle.steal_pool.specs.declared.hand.Hand.{Hand}
use Rattle.steal_pool.specs.Lanes.{own_hand}
use Rattle.steal_pool.specs.Loans.{IsThiefOf, IsUnused, victim_key}
use Rattle.steal_pool.proofs.Elements.{all-front, all-snoc}
use Rattle.steal_pool.proofs.lending.lend.Goals as goal
use Rattle.steal_pool.proofs.lending.lend.Goals.{After-push_reserved}

-- the ends that stay are of the giver's deque, and so is the one that goes
thieves : (g : _) (c : After-push_reserved g)
    → AllByRecursion (IsThiefOf (worker_deque c.args.giver.now.lane.owner)) c.pop.new.self.items × IsThiefOf (worker_deque c.args.giver.now.lane.owner) c.in-Some.thief
thieves g c =
    let P = IsThiefOf (worker_deque c.args.giver.now.lane.owner) in
    let both = all-front P c.pop.new.self.items (c.in-Some.thief ∷ []) (subst (AllByRecursion P) c.in-Some.ensures.items c.requires.give.kin) in
    (both.0, both.1.0)

pub unreachable-requires : goal.unreachable-requires
unreachable-requires g c = let stock = c.requires.give.stock in let none = c.in_default.ensures.cases.0 in omega arith

pub push_reserved-requires : goal.push_reserved-requires
push_reserved-requires g c = let get = c.requires.get in omega arith

pub returns-clause-given : goal.returns-clause-given
returns-clause-given g c =
    let rights = c.requires.give.rights in
    let hands = c.split-pass.ensures.hands.0 in
    let fewer = ap (λ h. h.rights) hands in
    let deque = c.split-pass.ensures.deque in (
      refl,
      record {
        view = λ i. record (hands i) { rights = (own_hand c.split-pass.new.self).rights };
        rights = omega arith;
        deque = deque;
        stock = c.in-Some.ensures.len;
        kin = subst (λ d. AllByRecursion (IsThiefOf d) c.pop.new.self.items) (sym deque) (thieves g c).0;
        space = c.pop.ensures.capacity;
      },
    )

pub returns-clause-got : goal.returns-clause-got
returns-clause-got g c =
    let push = c.push_reserved.ensures in
    let others = c.args.taker.now.others.items in
    let pass = c.split-pass.ensures.hands.1 in
    let thief = (thieves g c).1.0 in
    record {
      rest = refl;
      came =
          ap (map victim_key) push.items ∙ (map-append victim_key others _
          ∙ (λ i. map victim_key others ++ (thief i, (let v : Hand = pass i in record v { took = [] })) ∷ []));
      fresh = λ unused. subst (AllByRecursion IsUnused) (sym push.items) (all-snoc IsUnused others _ unused (ap (λ (v : Hand). v.took) pass));
      space = push.capacity;
      count = push.len;
    }
