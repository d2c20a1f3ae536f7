use Rattle.std.proofs.Common.{rules, arith, ◌≡◌, ◌+◌, ◌++◌, List, [], ◌∷◌, map, length, slice_index_or, subst, sym, ◌∙◌, ap, append_assoc}
use Rattle.std.proofs.lemmas.List.{append_cancel_right}
use Rattle.crossbeam_utils.specs.Padded.{padded_with_value}
use Rattle.heap_base.specs.Counting.{total}
use Rattle.steal_pool.specs.Lanes.{own_hand}
use Rattle.steal_pool.specs.Victims.{total_took}
use Rattle.steal_pool.specs.Loans.{HandKey, hand_key, key_in, keys_of, CanTakeBack, OnlyTakesBack, ReturnsHands, own_took}
use Rattle.steal_pool.proofs.LoanLemmas.{IsSplit, AllPlaces, EachBecomes, front_is, headed}
use Rattle.steal_pool.proofs.returning.+give_back_to_each.Goals as goal
use Rattle.steal_pool.proofs.returning.+give_back_to_each.Goals.{After-deref_mut-first}

-- the places are the first and the rest
split : (g : _) (t : _) (c : After-deref_mut-first g t) → IsSplit c.args.owners.now c.split_at_mut-head.result.0.now c.split_at_mut-head.result.1.now
split g t c = record { whole = c.split_at_mut-head.ensures.value; one = c.split_at_mut-head.ensures.front_len }

-- the keys of the giver, where the first owner's stands before those of the rest
keys_are : (g : _) (t : _) (c : After-deref_mut-first g t)
    → keys_of c.args.giver.now ≡ (c.requires.last.0 ++ key_in (slice_index_or c.split_at_mut-head.result.0.now 0 c.index-head-0.result) ∷ []) ++ map key_in c.split_at_mut-head.result.1.now
keys_are g t c =
    let front = c.requires.last.0 in
    c.requires.last.1 ∙ (ap (λ xs. front ++ map key_in xs) (front_is (split g t c) c.index-head-0.result) ∙ sym (append_assoc front _ (map key_in c.split_at_mut-head.result.1.now)))

pub give_back_to_each-requires : goal.give_back_to_each-requires
give_back_to_each-requires g t c κs within =
    let at = (goal.at.give_back_to_each-requires g t c).After-deref_mut-first in
    let e = front_is (split g t at) c.index-head-0.result in
    let o = ap length e in
    let a = subst (AllPlaces (CanTakeBack 1)) e c.requires.join in
    (search (rules, o), (search rules, (a.1, (_, keys_are g t at))))

pub take_back-requires-clause-last : goal.take_back-requires-clause-last
take_back-requires-clause-last g t c =
    let x = slice_index_or c.split_at_mut-head.result.0.now 0 c.index-head-0.result in
    let was = keys_are g t (goal.at.take_back-requires-clause-last g t c).After-deref_mut-first in
    let front = c.requires.last.0 in
    let left = c.give_back_to_each.ensures.returned.left in
    subst (λ u. (front : List HandKey) × (keys_of c.give_back_to_each.new.giver ≡ front ++ hand_key u.lane ∷ []))
    (sym c.deref_mut-first.ensures.value)
    (front, append_cancel_right (keys_of c.give_back_to_each.new.giver) (front ++ key_in x ∷ []) (map key_in c.split_at_mut-head.result.1.now) (sym left ∙ was))

pub returns-then-not-is_empty-clause-sum : goal.returns-then-not-is_empty-clause-sum
returns-then-not-is_empty-clause-sum g t c = λ h. (
    let cut = split g t (goal.at.returns-then-not-is_empty-clause-sum g t c).After-deref_mut-first in
    let x = slice_index_or c.split_at_mut-head.result.0.now 0 c.index-head-0.result in
    let took = ap (λ u. total h (own_hand u.lane).took) c.deref_mut-first.ensures.value in
    let a = c.take_back.ensures.sum h in
    let b = c.give_back_to_each.ensures.sum h in
    headed
    (λ xs ys. total (own_took h) ys + total_took h c.take_back.new.giver.others.items ≡ total (own_took h) xs + total_took h c.args.giver.now.others.items)
    cut c.index-head-0.result (padded_with_value x c.take_back.new.owner) c.give_back_to_each.new.owners
    (omega arith))

pub take_back-requires-clause-join : goal.take_back-requires-clause-join
take_back-requires-clause-join g t c =
    let e = front_is (split g t (goal.at.take_back-requires-clause-join g t c).After-deref_mut-first) c.index-head-0.result in
    subst (CanTakeBack 1) (sym c.deref_mut-first.ensures.value) (subst (AllPlaces (CanTakeBack 1)) e c.requires.join).0

pub returns-then-not-is_empty-clause-joined : goal.returns-then-not-is_empty-clause-joined
returns-then-not-is_empty-clause-joined g t c =
    let cut = split g t (goal.at.returns-then-not-is_empty-clause-joined g t c).After-deref_mut-first in
    let first = padded_with_value (slice_index_or c.split_at_mut-head.result.0.now 0 c.index-head-0.result) c.take_back.new.owner in
    let joined = subst (λ u. OnlyTakesBack 1 u c.take_back.new.owner) c.deref_mut-first.ensures.value c.take_back.ensures.joined in
    headed (EachBecomes (OnlyTakesBack 1)) cut c.index-head-0.result first c.give_back_to_each.new.owners (joined, c.give_back_to_each.ensures.joined)

pub returns-then-not-is_empty-clause-returned : goal.returns-then-not-is_empty-clause-returned
returns-then-not-is_empty-clause-returned g t c =
    let e = front_is (split g t (goal.at.returns-then-not-is_empty-clause-returned g t c).After-deref_mut-first) c.index-head-0.result in
    let x = slice_index_or c.split_at_mut-head.result.0.now 0 c.index-head-0.result in
    let ms = map key_in c.split_at_mut-head.result.1.now in
    let new = c.take_back.new.giver in
    let a = c.give_back_to_each.ensures.returned in
    let b = subst (λ u. ReturnsHands (hand_key u.lane ∷ []) c.give_back_to_each.new.giver new) c.deref_mut-first.ensures.value c.take_back.ensures.returned in
    subst (λ xs. ReturnsHands (map key_in xs) c.args.giver.now new) (sym e)
    (record {
      rest = b.rest ∙ (λ i. record (a.rest i) { others = new.others });
      left = a.left ∙ (ap (λ ns. ns ++ ms) b.left ∙ append_assoc (keys_of new) (key_in x ∷ []) ms);
      space = b.space ∙ a.space;
    })
