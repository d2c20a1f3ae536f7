use Rattle.std.proofs.Common.{rules, arith, ◌≡◌, ◌+◌, ◌++◌, List, [], ◌∷◌, length, slice_index_or, subst, sym, ap}
use Rattle.std.specs.List.{AllByRecursion}
use Rattle.crossbeam_utils.specs.Padded.{padded_with_value}
use Rattle.heap_base.specs.Counting.{total}
use Rattle.steal_pool.specs.Lanes.{own_hand}
use Rattle.steal_pool.specs.Loans.{HandKey, hand_key, keys_of, keys_in, OnlyTakesBack, ReturnsHands, others_took}
use Rattle.steal_pool.specs.Victims.{total_took}
use Rattle.steal_pool.proofs.LoanLemmas.{IsSplit, EachMoves, front_is, headed, key_joined}
use Rattle.steal_pool.proofs.ReturnLemmas.{joins_on, tails}
use Rattle.steal_pool.proofs.returning.+take_back_from_each.Goals as goal
use Rattle.steal_pool.proofs.returning.+take_back_from_each.Goals.{After-deref_mut-first}

-- the places are the first and the rest
split : (g : _) (t : _) (c : After-deref_mut-first g t) → IsSplit c.args.givers.now c.split_at_mut-head.result.0.now c.split_at_mut-head.result.1.now
split g t c = record { whole = c.split_at_mut-head.ensures.value; one = c.split_at_mut-head.ensures.front_len }

-- the owner's key is the last of the first place, and of the rest
lasts : (g : _) (t : _) (c : After-deref_mut-first g t)
    → ((front : List HandKey) × (keys_in (slice_index_or c.split_at_mut-head.result.0.now 0 c.index-head-0.result) ≡ front ++ hand_key c.args.owner.now.lane ∷ []))
    × AllByRecursion (λ p. (front : List HandKey) × (keys_in p ≡ front ++ hand_key c.args.owner.now.lane ∷ [])) c.split_at_mut-head.result.1.now
lasts g t c =
    subst (λ xs. AllByRecursion (λ p. (front : List HandKey) × (keys_in p ≡ front ++ hand_key c.args.owner.now.lane ∷ [])) xs)
    (front_is (split g t c) c.index-head-0.result) c.requires.last

pub take_back-requires-clause-last : goal.take_back-requires-clause-last
take_back-requires-clause-last g t c =
    subst (λ u. (front : List HandKey) × (keys_of u ≡ front ++ hand_key c.args.owner.now.lane ∷ [])) (sym c.deref_mut-first.ensures.value)
    (lasts g t (goal.at.take_back-requires-clause-last g t c).After-deref_mut-first).0

pub take_back_from_each-requires : goal.take_back_from_each-requires
take_back_from_each-requires g t c κs within =
    let at = (goal.at.take_back_from_each-requires g t c).After-deref_mut-first in
    let m = hand_key c.args.owner.now.lane in
    let rest = c.split_at_mut-head.result.1.now in
    let o = ap length (front_is (split g t at) c.index-head-0.result) in
    let can = c.requires.join in
    let space = can.space in
    let one = c.take_back.ensures.joined.1 in
    let stock = one.stock in
    let same = one.space in
    let last = tails m (hand_key c.take_back.new.owner.lane) rest (sym (key_joined 1 c.args.owner.now c.take_back.new.owner one)) (lasts g t at).1 in
    (search (rules, o), (search rules, (record { space = omega arith; kin = one.kin }, last)))

pub returns-then-not-is_empty-clause-joined : goal.returns-then-not-is_empty-clause-joined
returns-then-not-is_empty-clause-joined g t c =
    let cut = split g t (goal.at.returns-then-not-is_empty-clause-joined g t c).After-deref_mut-first in
    let rest = c.split_at_mut-head.result.1.now in
    let o = ap length (front_is cut c.index-head-0.result) in
    let n : 1 + length rest ≡ length c.args.givers.now = omega arith in
    subst (λ k. OnlyTakesBack k c.args.owner.now c.take_back_from_each.new.owner) n
    (joins_on 1 (length rest) c.args.owner.now c.take_back.new.owner c.take_back_from_each.new.owner c.take_back.ensures.joined c.take_back_from_each.ensures.joined)

pub returns-then-not-is_empty-clause-returned : goal.returns-then-not-is_empty-clause-returned
returns-then-not-is_empty-clause-returned g t c =
    let cut = split g t (goal.at.returns-then-not-is_empty-clause-returned g t c).After-deref_mut-first in
    let m = hand_key c.args.owner.now.lane in
    let x = slice_index_or c.split_at_mut-head.result.0.now 0 c.index-head-0.result in
    headed (EachMoves ReturnsHands m) cut
    c.index-head-0.result (padded_with_value x c.take_back.new.giver) c.take_back_from_each.new.givers (
      subst (λ u. ReturnsHands (m ∷ []) u c.take_back.new.giver) c.deref_mut-first.ensures.value c.take_back.ensures.returned,
      subst (λ n. EachMoves ReturnsHands n c.split_at_mut-head.result.1.now c.take_back_from_each.new.givers)
          (key_joined 1 c.args.owner.now c.take_back.new.owner c.take_back.ensures.joined.1) c.take_back_from_each.ensures.returned,
    )

pub returns-then-not-is_empty-clause-sum : goal.returns-then-not-is_empty-clause-sum
returns-then-not-is_empty-clause-sum g t c = λ h. (
    let cut = split g t (goal.at.returns-then-not-is_empty-clause-sum g t c).After-deref_mut-first in
    let x = slice_index_or c.split_at_mut-head.result.0.now 0 c.index-head-0.result in
    let a =
    subst
    (λ u. total h (own_hand c.take_back.new.owner.lane).took + total_took h c.take_back.new.giver.others.items ≡ total h (own_hand c.args.owner.now.lane).took + total_took h u.others.items)
    c.deref_mut-first.ensures.value (c.take_back.ensures.sum h) in
    let b = c.take_back_from_each.ensures.sum h in
    headed
    (λ xs ys. total h (own_hand c.take_back_from_each.new.owner.lane).took + total (others_took h) ys ≡ total h (own_hand c.args.owner.now.lane).took + total (others_took h) xs)
    cut c.index-head-0.result (padded_with_value x c.take_back.new.giver) c.take_back_from_each.new.givers
    (omega arith))

pub take_back-requires-clause-join : goal.take_back-requires-clause-join
take_back-requires-clause-join g t c =
    let o = ap length (front_is (split g t (goal.at.take_back-requires-clause-join g t c).After-deref_mut-first) c.index-head-0.result) in
    let can = c.requires.join in
    let space = can.space in
    record { space = omega arith; kin = can.kin }
