use Rattle.std.proofs.Common.{rules, arith, ◌≡◌, ◌-◌, ◌++◌, List, [], ◌∷◌, map, length, slice_index_or, subst, sym, ◌∙◌, ap}
use Rattle.std.proofs.lemmas.List.{append_cancel_right}
use Rattle.std.specs.List.{AllByRecursion}
use Rattle.crossbeam_utils.specs.Padded.{padded_value, padded_with_value}
use Rattle.heap_base.specs.Counting.{total}
use Rattle.steal_pool.specs.Lanes.{own_hand}
use Rattle.steal_pool.specs.Victims.{total_took}
use Rattle.steal_pool.specs.Loans.{HandKey, hand_key, key_in, keys_of, keys_in, keys_of_others, CanTakeBack, OnlyTakesBack, ReturnsHands, RestoresHands, own_took, others_took, all_took}
use Rattle.steal_pool.proofs.ListLemmas.{each_length, each_same}
use Rattle.steal_pool.proofs.LoanLemmas.{IsSplit, AllPlaces, EachBecomes, EachMoves, front_is, headed, key_joined}
use Rattle.steal_pool.proofs.ReturnLemmas.{join_less, first_row, lasts, can_join_one, restored_head, restored_rest, rows_returned, took_returned, total_all}
use Rattle.steal_pool.proofs.returning.+take_back_all.Goals as goal
use Rattle.steal_pool.proofs.returning.+take_back_all.Goals.{After-deref_mut-first, After-take_back_from_each}

-- the places are the first and the rest
split : (g : _) (t : _) (c : After-deref_mut-first g t) → IsSplit c.args.places.now c.split_at_mut-head.result.0.now c.split_at_mut-head.result.1.now
split g t c = record { whole = c.split_at_mut-head.ensures.value; one = c.split_at_mut-head.ensures.front_len }

-- each of the rest can take back as many hands as there are others
rest_can : (g : _) (t : _) (c : After-deref_mut-first g t) → AllPlaces (CanTakeBack (length c.args.places.now - 1)) c.split_at_mut-head.result.1.now
rest_can g t c = (subst (AllPlaces (CanTakeBack (length c.args.places.now - 1))) (front_is (split g t c) c.index-head-0.result) c.requires.join).1

-- the keys of the first place, and those of the rest
rows_of : (g : _) (t : _) (c : After-deref_mut-first g t) (b : List HandKey) → map keys_in c.args.places.now ≡ keys_of_others b (map key_in c.args.places.now)
    → let first = slice_index_or c.split_at_mut-head.result.0.now 0 c.index-head-0.result in
    let rest = c.split_at_mut-head.result.1.now in
    (keys_in first ≡ b ++ map key_in rest) × (map keys_in rest ≡ keys_of_others (b ++ key_in first ∷ []) (map key_in rest))
rows_of g t c b e =
    first_row b (slice_index_or c.split_at_mut-head.result.0.now 0 c.index-head-0.result) c.split_at_mut-head.result.1.now
    (subst (λ xs. map keys_in xs ≡ keys_of_others b (map key_in xs)) (front_is (split g t c) c.index-head-0.result) e)

-- the rest keep the keys of their own deques
keys_kept : (g : _) (t : _) (c : After-take_back_from_each g t) → map key_in c.take_back_from_each.new.givers ≡ map key_in c.split_at_mut-head.result.1.now
keys_kept g t c =
    each_same _ key_in (λ p _ q l. ap (λ u. hand_key u.lane) l.rest) _ _ _ c.take_back_from_each.ensures.returned
    ∙ each_same _ key_in (λ p _ q l. key_joined _ (padded_value p) (padded_value q) l.joined) _ _ _ c.take_back_all.ensures.each

-- the keys that the first place has still
keys_left : (g : _) (t : _) (c : After-take_back_from_each g t) (b : List HandKey)
    → keys_in (slice_index_or c.split_at_mut-head.result.0.now 0 c.index-head-0.result) ≡ b ++ map key_in c.split_at_mut-head.result.1.now
    → keys_of c.take_back_from_each.new.owner ≡ b ++ map key_in c.take_back_from_each.new.givers
keys_left g t c b row =
    ap keys_of c.take_back_from_each.ensures.joined.0
    ∙ (ap keys_of c.deref_mut-first.ensures.value ∙ (row ∙ ap (λ ms. b ++ ms) (sym (keys_kept g t c))))

pub take_back_all-requires : goal.take_back_all-requires
take_back_all-requires g t c κs within =
    let at = (goal.at.take_back_all-requires g t c).After-deref_mut-first in
    let rest = c.split_at_mut-head.result.1.now in
    let o = ap length (front_is (split g t at) c.index-head-0.result) in
    let b = c.requires.rows.0 in
    let rows = rows_of g t at b c.requires.rows.1 in
    let can = join_less (length c.args.places.now - 1) (length rest - 1) rest (λ h. omega arith) (rest_can g t at) in
    let x = slice_index_or c.split_at_mut-head.result.0.now 0 c.index-head-0.result in
    (search (rules, o), (search rules, (can, (b ++ key_in x ∷ [], rows.1))))

pub take_back_from_each-requires-clause-last : goal.take_back_from_each-requires-clause-last
take_back_from_each-requires-clause-last g t c =
    let b = c.requires.rows.0 in
    let x = slice_index_or c.split_at_mut-head.result.0.now 0 c.index-head-0.result in
    let rows = rows_of g t (goal.at.take_back_from_each-requires-clause-last g t c).After-deref_mut-first b c.requires.rows.1 in
    subst (λ u. AllByRecursion (λ p. (front : List HandKey) × (keys_in p ≡ front ++ hand_key u.lane ∷ [])) c.take_back_all.new.places) (sym c.deref_mut-first.ensures.value)
    (lasts b (key_in x) c.take_back_all.new.places (c.take_back_all.ensures.rows (b ++ key_in x ∷ []) rows.1))

pub give_back_to_each-requires-clause-join : goal.give_back_to_each-requires-clause-join
give_back_to_each-requires-clause-join g t c =
    let at = (goal.at.give_back_to_each-requires-clause-join g t c).After-deref_mut-first in
    let rest = c.split_at_mut-head.result.1.now in
    let o = ap length (front_is (split g t at) c.index-head-0.result) in
    can_join_one (length c.args.places.now - 1) (length rest - 1) _ rest c.take_back_all.new.places c.take_back_from_each.new.givers
    (λ h. omega arith) (rest_can g t at) c.take_back_all.ensures.each c.take_back_from_each.ensures.returned

pub give_back_to_each-requires-clause-last : goal.give_back_to_each-requires-clause-last
give_back_to_each-requires-clause-last g t c =
    let b = c.requires.rows.0 in
    let at = goal.at.give_back_to_each-requires-clause-last g t c in
    (b, keys_left g t at.After-take_back_from_each b (rows_of g t at.After-deref_mut-first b c.requires.rows.1).0)

pub returns-then-not-is_empty-clause-each : goal.returns-then-not-is_empty-clause-each
returns-then-not-is_empty-clause-each g t c =
    let cut = split g t (goal.at.returns-then-not-is_empty-clause-each g t c).After-deref_mut-first in
    let rest = c.split_at_mut-head.result.1.now in
    let x = slice_index_or c.split_at_mut-head.result.0.now 0 c.index-head-0.result in
    let k = length c.args.places.now - 1 in
    let o = ap length (front_is cut c.index-head-0.result) in
    let l = each_length _ _ _ _ c.take_back_all.ensures.each in
    let n : length c.take_back_all.new.places ≡ k = omega arith in
    let taken = subst (λ j. OnlyTakesBack j c.deref_mut-first.result.now c.take_back_from_each.new.owner) n c.take_back_from_each.ensures.joined in
    let took = subst (λ u. OnlyTakesBack k u c.take_back_from_each.new.owner) c.deref_mut-first.ensures.value taken in
    headed (EachBecomes (RestoresHands k)) cut c.index-head-0.result
    (padded_with_value x c.give_back_to_each.new.giver) c.give_back_to_each.new.owners (
      restored_head k (map key_in c.take_back_from_each.new.givers) (padded_value x) c.take_back_from_each.new.owner c.give_back_to_each.new.giver
          took c.give_back_to_each.ensures.returned,
      restored_rest k (length rest - 1) _ rest c.take_back_all.new.places c.take_back_from_each.new.givers c.give_back_to_each.new.owners
          (λ h. omega arith) c.take_back_all.ensures.each c.take_back_from_each.ensures.returned c.give_back_to_each.ensures.joined,
    )

pub returns-then-not-is_empty-clause-rows : goal.returns-then-not-is_empty-clause-rows
returns-then-not-is_empty-clause-rows g t c = λ b h. (
    let at = goal.at.returns-then-not-is_empty-clause-rows g t c in
    let rows = rows_of g t at.After-deref_mut-first b h in
    let x = slice_index_or c.split_at_mut-head.result.0.now 0 c.index-head-0.result in
    let qs = c.take_back_all.new.places in
    let rs = c.take_back_from_each.new.givers in
    let returned = subst (λ u. EachMoves ReturnsHands (hand_key u.lane) qs rs) c.deref_mut-first.ensures.value c.take_back_from_each.ensures.returned in
    headed (λ xs ys. AllByRecursion (λ q. keys_in q ≡ b) ys) (split g t at.After-deref_mut-first) c.index-head-0.result
    (padded_with_value x c.give_back_to_each.new.giver) c.give_back_to_each.new.owners (
      append_cancel_right (keys_of c.give_back_to_each.new.giver) b (map key_in rs) (sym c.give_back_to_each.ensures.returned.left ∙ keys_left g t at.After-take_back_from_each b rows.0),
      rows_returned b (key_in x) qs rs c.give_back_to_each.new.owners
          (c.take_back_all.ensures.rows (b ++ key_in x ∷ []) rows.1)
          returned
          c.give_back_to_each.ensures.joined,
    ))

pub returns-then-not-is_empty-clause-sum : goal.returns-then-not-is_empty-clause-sum
returns-then-not-is_empty-clause-sum g t c = λ h. (
    let x = slice_index_or c.split_at_mut-head.result.0.now 0 c.index-head-0.result in
    let qs = c.take_back_all.new.places in
    let rs = c.take_back_from_each.new.givers in
    let ss = c.give_back_to_each.new.owners in
    let a = c.take_back_all.ensures.sum h in
    let b = c.take_back_from_each.ensures.sum h in
    let d = c.give_back_to_each.ensures.sum h in
    let u = took_returned h _ qs rs ss c.take_back_from_each.ensures.returned c.give_back_to_each.ensures.joined in
    let u0 = u.0 in
    let u1 = u.1 in
    let t0 = total_all h c.split_at_mut-head.result.1.now in
    let t1 = total_all h qs in
    let t2 = total_all h ss in
    let w0 : own_took h x ≡ total h (own_hand c.deref_mut-first.result.now.lane).took = ap (λ u. total h (own_hand u.lane).took) (sym c.deref_mut-first.ensures.value) in
    let w1 : others_took h x ≡ total_took h c.deref_mut-first.result.now.others.items = ap (λ u. total_took h u.others.items) (sym c.deref_mut-first.ensures.value) in
    let v0 : total_took h c.take_back_from_each.new.owner.others.items ≡ total_took h c.deref_mut-first.result.now.others.items =
    ap (λ u. total_took h u.others.items) c.take_back_from_each.ensures.joined.0 in
    let v1 : total h (own_hand c.give_back_to_each.new.giver.lane).took ≡ total h (own_hand c.take_back_from_each.new.owner.lane).took =
    ap (λ u. total h (own_hand u.lane).took) c.give_back_to_each.ensures.returned.rest in
    headed (λ xs ys. total (all_took h) ys ≡ total (all_took h) xs) (split g t (goal.at.returns-then-not-is_empty-clause-sum g t c).After-deref_mut-first)
    c.index-head-0.result (padded_with_value x c.give_back_to_each.new.giver) ss (omega arith))

pub take_back_from_each-requires-clause-join : goal.take_back_from_each-requires-clause-join
take_back_from_each-requires-clause-join g t c =
    let e = front_is (split g t (goal.at.take_back_from_each-requires-clause-join g t c).After-deref_mut-first) c.index-head-0.result in
    let k = length c.args.places.now - 1 in
    let o = ap length e in
    let l = each_length _ _ _ _ c.take_back_all.ensures.each in
    let n : k ≡ length c.take_back_all.new.places = omega arith in
    let first = (subst (AllPlaces (CanTakeBack k)) e c.requires.join).0 in
    subst (λ j. CanTakeBack j c.deref_mut-first.result.now) n (subst (CanTakeBack k) (sym c.deref_mut-first.ensures.value) first)
