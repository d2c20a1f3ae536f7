use Rattle.std.proofs.Common.{◌+◌, refl, sym, ap, ◌∙◌, map}
use Rattle.steal_pool.specs.Loans.{hand_key, victim_key}
use Rattle.steal_pool.specs.Victims.{total_took}
use Rattle.heap_base.specs.Counting.{total}
use Rattle.steal_pool.specs.Lanes.{own_hand}
use Rattle.steal_pool.proofs.ReturnLemmas.{last_seen, join_one, sum_one}
use Rattle.steal_pool.proofs.returning.take_back.Goals as goal

pub returns-clause-joined : goal.returns-clause-joined
returns-clause-joined g c =
    let last =
    last_seen c.pop.new.self.items c.in-Some.victim c.requires.last.0 (hand_key c.args.owner.now.lane)
    (sym (ap (map victim_key) c.in-Some.ensures.items) ∙ c.requires.last.1) in
    let stock = c.push_reserved.ensures in
    (refl, join_one c.args.owner.now _ c.in-Some.victim last.1 c.join.ensures.hand c.args.owner.now.lane.owns c.join.ensures.deque stock.items stock.len stock.capacity c.requires.join)

pub returns-clause-sum : goal.returns-clause-sum
returns-clause-sum g c = λ h. (
    let owner = c.args.owner.now.lane in
    sum_one h owner c.join.new.self c.pop.new.self.items c.in-Some.victim c.join.ensures.hand
    ∙ (λ i. total h (own_hand owner).took + total_took h (sym c.in-Some.ensures.items i)))
