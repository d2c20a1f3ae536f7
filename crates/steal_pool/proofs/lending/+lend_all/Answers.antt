use Rattle.std.proofs.Common.{rules, arith, ◌≡◌, ◌-◌, ◌++◌, [], ◌∷◌, map, length, slice_index_or, subst, sym, ◌∙◌, ap}
use Rattle.std.specs.List.{AllByRecursion}
use Rattle.crossbeam_utils.specs.Padded.{padded_value, padded_with_value}
use Rattle.steal_pool.specs.Loans.{hand_key, key_in, keys_in, keys_of_others, CanLend, CanReceive, ReceivesHands, OnlyLends, ExchangesHands}
use Rattle.steal_pool.proofs.ListLemmas.{each_length, each_same}
use Rattle.steal_pool.proofs.LoanLemmas.{IsSplit, AllPlaces, EachBecomes, EachMoves, front_is, headed, tail_length, can_give_one, can_go_on, get_one}
use Rattle.steal_pool.proofs.LoanLemmas.{key_lent, exchanged_head, exchanged_rest, rows_got, rows_cross}
use Rattle.steal_pool.proofs.lending.+lend_all.Goals as goal
use Rattle.steal_pool.proofs.lending.+lend_all.Goals.{After-deref_mut-first, After-lend_from_each}

-- the places are the first and the rest
split : (g : _) (t : _) (c : After-deref_mut-first g t) → IsSplit c.args.places.now c.split_at_mut-head.result.0.now c.split_at_mut-head.result.1.now
split g t c = record { whole = c.split_at_mut-head.ensures.value; one = c.split_at_mut-head.ensures.front_len }

-- each of the rest could lend and receive as many hands as there are others
rest_can : (g : _) (t : _) (c : After-deref_mut-first g t)
    → AllPlaces (CanLend (length c.args.places.now - 1)) c.split_at_mut-head.result.1.now × AllPlaces (CanReceive (length c.args.places.now - 1)) c.split_at_mut-head.result.1.now
rest_can g t c =
    let e = front_is (split g t c) c.index-head-0.result in
    let k = length c.args.places.now - 1 in
    ((subst (AllPlaces (CanLend k)) e c.requires.give).1, (subst (AllPlaces (CanReceive k)) e c.requires.get).1)

-- how many the rest are
rest_length : (g : _) (t : _) (c : After-deref_mut-first g t) → length c.args.places.now - 1 ≡ length c.split_at_mut-head.result.1.now
rest_length g t c = tail_length _ _ _ (front_is (split g t c) c.index-head-0.result)

-- the loans of the first place leave as many places
rest_lent : (g : _) (t : _) (c : After-lend_from_each g t) → length c.lend_from_each.new.givers ≡ length c.split_at_mut-head.result.1.now
rest_lent g t c = each_length _ _ _ _ c.lend_from_each.ensures.given ∙ each_length _ _ _ _ c.lend_to_each.ensures.got

pub lend_to_each-requires-clause-get : goal.lend_to_each-requires-clause-get
lend_to_each-requires-clause-get g t c =
    let at = (goal.at.lend_to_each-requires-clause-get g t c).After-deref_mut-first in
    get_one (length c.args.places.now - 1) c.split_at_mut-head.result.1.now (omega (arith, rest_length g t at)) (rest_can g t at).1

pub lend_from_each-requires-clause-give : goal.lend_from_each-requires-clause-give
lend_from_each-requires-clause-give g t c =
    let at = (goal.at.lend_from_each-requires-clause-give g t c).After-deref_mut-first in
    can_give_one _ (length c.args.places.now - 1) c.split_at_mut-head.result.1.now c.lend_to_each.new.takers
    (omega (arith, rest_length g t at)) c.lend_to_each.ensures.got (rest_can g t at).0

pub lend_all-requires : goal.lend_all-requires
lend_all-requires g t c κs within =
    let at = (goal.at.lend_all-requires g t c).After-deref_mut-first in
    let n = rest_length g t at in
    let m = rest_lent g t (goal.at.lend_all-requires g t c).After-lend_from_each in
    let o = ap length (front_is (split g t at) c.index-head-0.result) in
    let can = rest_can g t at in
    let u =
    can_go_on _ (length c.args.places.now - 1) (length c.lend_from_each.new.givers - 1) c.split_at_mut-head.result.1.now c.lend_to_each.new.takers
    c.lend_from_each.new.givers (λ h. omega arith) c.lend_to_each.ensures.got c.lend_from_each.ensures.given can.0 can.1 in
    (search (rules, m, o), (search rules, u))

pub returns-then-not-is_empty-clause-each : goal.returns-then-not-is_empty-clause-each
returns-then-not-is_empty-clause-each g t c =
    let at = goal.at.returns-then-not-is_empty-clause-each g t c in
    let rest = c.split_at_mut-head.result.1.now in
    let k = length c.args.places.now - 1 in
    let n = rest_length g t at.After-deref_mut-first in
    let m = rest_lent g t at.After-lend_from_each in
    let x = slice_index_or c.split_at_mut-head.result.0.now 0 c.index-head-0.result in
    let lent = subst (λ u. OnlyLends (length rest) u c.lend_to_each.new.giver) c.deref_mut-first.ensures.value c.lend_to_each.ensures.given in
    let first = exchanged_head (length rest) _ _ c.lend_to_each.new.giver c.lend_from_each.new.taker lent c.lend_from_each.ensures.got in
    headed (EachBecomes (ExchangesHands k)) (split g t at.After-deref_mut-first) c.index-head-0.result
    (padded_with_value x c.lend_from_each.new.taker) c.lend_all.new.places (
      subst (λ j. ExchangesHands j (padded_value x) c.lend_from_each.new.taker) (sym n) first,
      exchanged_rest _ k (length c.lend_from_each.new.givers - 1) rest c.lend_to_each.new.takers c.lend_from_each.new.givers
          c.lend_all.new.places (λ h. omega arith) c.lend_to_each.ensures.got c.lend_from_each.ensures.given c.lend_all.ensures.each,
    )

pub returns-then-not-is_empty-clause-rows : goal.returns-then-not-is_empty-clause-rows
returns-then-not-is_empty-clause-rows g t c = λ b h. (
    let cut = split g t (goal.at.returns-then-not-is_empty-clause-rows g t c).After-deref_mut-first in
    let rest = c.split_at_mut-head.result.1.now in
    let rows = subst (λ xs. AllByRecursion (λ p. keys_in p ≡ b) xs) (front_is cut c.index-head-0.result) h in
    let ss = c.lend_all.new.places in
    let rs = c.lend_from_each.new.givers in
    let qs = c.lend_to_each.new.takers in
    let x = slice_index_or c.split_at_mut-head.result.0.now 0 c.index-head-0.result in
    let lent = subst (λ u. OnlyLends (length rest) u c.lend_to_each.new.giver) c.deref_mut-first.ensures.value c.lend_to_each.ensures.given in
    let got = subst (λ u. EachMoves ReceivesHands (hand_key u.lane) rest qs) c.deref_mut-first.ensures.value c.lend_to_each.ensures.got in
    let marks =
    each_same _ key_in (λ p _ q l. key_lent (length rs - 1) (padded_value p) (padded_value q) l.lent) rs rs ss c.lend_all.ensures.each
    ∙ each_same _ key_in (λ p _ q l. key_lent 1 (padded_value p) (padded_value q) l.1) qs qs rs c.lend_from_each.ensures.given in
    let later = c.lend_all.ensures.rows (b ++ key_in x ∷ []) (rows_got (key_in x) b rest qs rs got c.lend_from_each.ensures.given rows.1) in
    headed (λ xs ys. map keys_in ys ≡ keys_of_others b (map key_in ys)) cut c.index-head-0.result
    (padded_with_value x c.lend_from_each.new.taker) ss
    (rows_cross b (padded_value x) c.lend_to_each.new.giver c.lend_from_each.new.taker (map key_in qs) ss (length rest) rows.0 lent
    c.lend_from_each.ensures.got (sym marks) later))

pub lend_to_each-requires-clause-give : goal.lend_to_each-requires-clause-give
lend_to_each-requires-clause-give g t c =
    let at = (goal.at.lend_to_each-requires-clause-give g t c).After-deref_mut-first in
    let k = length c.args.places.now - 1 in
    let first = (subst (AllPlaces (CanLend k)) (front_is (split g t at) c.index-head-0.result) c.requires.give).0 in
    subst (λ n. CanLend n c.deref_mut-first.result.now) (rest_length g t at) (subst (CanLend k) (sym c.deref_mut-first.ensures.value) first)

pub lend_from_each-requires-clause-get : goal.lend_from_each-requires-clause-get
lend_from_each-requires-clause-get g t c =
    let at = (goal.at.lend_from_each-requires-clause-get g t c).After-deref_mut-first in
    let k = length c.args.places.now - 1 in
    let first = (subst (AllPlaces (CanReceive k)) (front_is (split g t at) c.index-head-0.result) c.requires.get).0 in
    let n : k ≡ length c.lend_to_each.new.takers = rest_length g t at ∙ sym (each_length _ _ _ _ c.lend_to_each.ensures.got) in
    subst (CanReceive (length c.lend_to_each.new.takers)) (sym c.lend_to_each.ensures.given.0)
    (subst (λ m. CanReceive m c.deref_mut-first.result.now) n (subst (CanReceive k) (sym c.deref_mut-first.ensures.value) first))
