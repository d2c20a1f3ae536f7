use Rattle.std.proofs.Common.{rules, arith, [], ◌∷◌, map, length, slice_index_or, subst, sym, ap}
use Rattle.crossbeam_utils.specs.Padded.{padded_with_value}
use Rattle.steal_pool.specs.Loans.{hand_key, key_in, CanLend, OnlyLends, ReceivesHands}
use Rattle.steal_pool.proofs.LoanLemmas.{IsSplit, AllPlaces, EachBecomes, front_is, gets_on, headed}
use Rattle.steal_pool.proofs.lending.+lend_from_each.Goals as goal

pub returns-then-not-is_empty-clause-got : goal.returns-then-not-is_empty-clause-got
returns-then-not-is_empty-clause-got g t c =
    let s = c.split_at_mut-head in
    let split : IsSplit c.args.givers.now s.result.0.now s.result.1.now = record { whole = s.ensures.value; one = s.ensures.front_len } in
    let got = subst (λ u. ReceivesHands (hand_key u.lane ∷ []) c.args.taker.now c.lend.new.taker) c.deref_mut-first.ensures.value c.lend.ensures.got in
    subst (λ xs. ReceivesHands (map key_in xs) c.args.taker.now c.lend_from_each.new.taker) (sym (front_is split c.index-head-0.result))
    (gets_on got c.lend_from_each.ensures.got)

pub returns-then-not-is_empty-clause-given : goal.returns-then-not-is_empty-clause-given
returns-then-not-is_empty-clause-given g t c =
    let s = c.split_at_mut-head in
    let split : IsSplit c.args.givers.now s.result.0.now s.result.1.now = record { whole = s.ensures.value; one = s.ensures.front_len } in
    let first = padded_with_value (slice_index_or s.result.0.now 0 c.index-head-0.result) c.lend.new.giver in
    let given = subst (λ u. OnlyLends 1 u c.lend.new.giver) c.deref_mut-first.ensures.value c.lend.ensures.given in
    headed (EachBecomes (OnlyLends 1)) split c.index-head-0.result first c.lend_from_each.new.givers (given, c.lend_from_each.ensures.given)

pub lend-requires-clause-give : goal.lend-requires-clause-give
lend-requires-clause-give g t c =
    let s = c.split_at_mut-head in
    let split : IsSplit c.args.givers.now s.result.0.now s.result.1.now = record { whole = s.ensures.value; one = s.ensures.front_len } in
    subst (CanLend 1) (sym c.deref_mut-first.ensures.value) (subst (AllPlaces (CanLend 1)) (front_is split c.index-head-0.result) c.requires.give).0

pub lend_from_each-requires : goal.lend_from_each-requires
lend_from_each-requires g t c κs within =
    let s = c.split_at_mut-head in
    let split : IsSplit c.args.givers.now s.result.0.now s.result.1.now = record { whole = s.ensures.value; one = s.ensures.front_len } in
    let e = front_is split c.index-head-0.result in
    let o = ap length e in
    let get = c.requires.get in
    let count = c.lend.ensures.got.count in
    let space = c.lend.ensures.got.space in
    (search (rules, o), (search rules, (omega arith, (subst (AllPlaces (CanLend 1)) e c.requires.give).1)))
