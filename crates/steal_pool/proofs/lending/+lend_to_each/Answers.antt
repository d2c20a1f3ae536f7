use Rattle.std.proofs.Common.{rules, arith, ◌≡◌, ◌+◌, [], ◌∷◌, map, length, slice_index_or, subst, sym, ◌∙◌, ap}
use Rattle.crossbeam_utils.specs.Padded.{padded_value, padded_with_value}
use Rattle.steal_pool.specs.Lists.{Each}
use Rattle.steal_pool.specs.Loans.{hand_key, CanReceive, OnlyLends, ReceivesHands}
use Rattle.steal_pool.proofs.LoanLemmas.{IsSplit, AllPlaces, front_is, headed, key_lent, lent_on}
use Rattle.steal_pool.proofs.lending.+lend_to_each.Goals as goal

pub returns-then-not-is_empty-clause-got : goal.returns-then-not-is_empty-clause-got
returns-then-not-is_empty-clause-got g t c =
    let s = c.split_at_mut-head in
    let split : IsSplit c.args.takers.now s.result.0.now s.result.1.now = record { whole = s.ensures.value; one = s.ensures.front_len } in
    let m = hand_key c.args.giver.now.lane in
    let rest = s.result.1.now in
    let first = padded_with_value (slice_index_or s.result.0.now 0 c.index-head-0.result) c.lend.new.taker in
    let got = subst (λ u. ReceivesHands (m ∷ []) u c.lend.new.taker) c.deref_mut-first.ensures.value c.lend.ensures.got in
    let later =
    subst (λ n. Each (λ p n q. ReceivesHands (n ∷ []) (padded_value p) (padded_value q)) rest (map (λ _. n) rest) c.lend_to_each.new.takers)
    (key_lent 1 c.args.giver.now c.lend.new.giver c.lend.ensures.given.1) c.lend_to_each.ensures.got in
    headed (λ xs ys. Each (λ p n q. ReceivesHands (n ∷ []) (padded_value p) (padded_value q)) xs (map (λ _. m) xs) ys) split
    c.index-head-0.result first c.lend_to_each.new.takers (got, later)

pub returns-then-not-is_empty-clause-given : goal.returns-then-not-is_empty-clause-given
returns-then-not-is_empty-clause-given g t c =
    let s = c.split_at_mut-head in
    let split : IsSplit c.args.takers.now s.result.0.now s.result.1.now = record { whole = s.ensures.value; one = s.ensures.front_len } in
    let o = ap length (front_is split c.index-head-0.result) in
    let rest = s.result.1.now in
    let n : 1 + length rest ≡ length c.args.takers.now = omega arith in
    let new = c.lend_to_each.new.giver in
    let a = c.lend.ensures.given in
    let b = c.lend_to_each.ensures.given in
    subst (λ k. OnlyLends k c.args.giver.now new) n
    (b.0 ∙ (λ i. record (a.0 i) { lane = new.lane; spare = new.spare }), lent_on 1 (length rest) c.args.giver.now c.lend.new.giver new a.1 b.1)

pub lend-requires-clause-get : goal.lend-requires-clause-get
lend-requires-clause-get g t c =
    let s = c.split_at_mut-head in
    let split : IsSplit c.args.takers.now s.result.0.now s.result.1.now = record { whole = s.ensures.value; one = s.ensures.front_len } in
    subst (CanReceive 1) (sym c.deref_mut-first.ensures.value) (subst (AllPlaces (CanReceive 1)) (front_is split c.index-head-0.result) c.requires.get).0

pub lend_to_each-requires : goal.lend_to_each-requires
lend_to_each-requires g t c κs within =
    let s = c.split_at_mut-head in
    let split : IsSplit c.args.takers.now s.result.0.now s.result.1.now = record { whole = s.ensures.value; one = s.ensures.front_len } in
    let e = front_is split c.index-head-0.result in
    let o = ap length e in
    let give = c.requires.give in
    let rights = give.rights in
    let stock = give.stock in
    let lent = c.lend.ensures.given.1 in
    let fewer = lent.rights in
    let less = lent.stock in
    (search (rules, o), (search rules, (record { rights = omega arith; stock = omega arith; kin = lent.kin }, (subst (AllPlaces (CanReceive 1)) e c.requires.get).1)))
