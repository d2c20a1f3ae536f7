-- Open regions with what is not asserted dead in them, and what each operation leaves of these.
use Rattle.std.proofs.Common.{◌≡◌, ℕ, Bool, true, false, not, List, [], ◌∷◌, ◌++◌, cond, map, filter, drop, fold, get_or, set, refl, sym, ap, ◌∙◌, ⊎_elim, All, ◌<◌, ◌≤◌, arith, eq-eqb, eqb-true}
use Rattle.std.specs.BTreeSet.{insert_key}
use Rattle.std.specs.List.Sorted.{IsStrictlySortedBy}
use Rattle.std.specs.Ordering.{nat_cmp, match_ordering}
use Rattle.std.specs.declared.cmp.Ordering.{Ordering}
use Rattle.std.specs.declared.cmp.Ordering.TheVariants.{Less, Equal, Greater}
use Rattle.std.proofs.lemmas.Bool.{false≢true, or_left, or_right, or_cases}
use Rattle.std.specs.List.{drop-map}
use Rattle.std.proofs.lemmas.Bool.Decides.{nat_tests}
use Rattle.std.proofs.lemmas.List.{append-nil, map-set}
use Rattle.std.proofs.lemmas.List.Elements.{All-nil, All-cons, All-contains, All-head, All-tail, All-weaker, filter-append}
use Rattle.std.proofs.lemmas.Map.Keys.{sorted_tail}
use Rattle.std.proofs.lemmas.Map.Views.{All-after_first}
use Rattle.std.proofs.lemmas.Cmp.{nat_cmp_total}
use Rattle.std.proofs.Math.ListN.{get_or-map}
use Rattle.graph_meaning.specs.Heap.{regions_of}
use Rattle.graph_meaning.specs.Reach.{has_id}
use Rattle.graph_meaning.specs.Step.{with_member}
use Rattle.graph_meaning.proofs.Membership.{has_id-Contains, has_id-filter, has_id-insert_key, map_agree}
use Rattle.graph_meaning.proofs.Orders.{sorted-insert_key}
use Rattle.region_log.specs.Regions.{AreNested, innermost, outer_without, with_region, without_innermost, without_innermost_ids}
use Rattle.heap_parts.specs.Parts.{without_dead}

-- what is asserted dead by these is so by those
abbrev pub Within : List ℕ → List ℕ → Type 0
Within dead more = (id : ℕ) → has_id dead id ≡ true → has_id more id ≡ true

-- the regions agree in what is not asserted dead
abbrev pub Agree : List ℕ → List (List (List ℕ)) → List (List (List ℕ)) → Type 0
Agree dead regions others = map (map (without_dead dead)) regions ≡ map (map (without_dead dead)) others

-- regions that are these agree where these do
pub agree-same : (dead : List ℕ) {left more regions others : List (List (List ℕ))} → left ≡ regions → more ≡ others → Agree dead regions others → Agree dead left more
agree-same dead {left} {more} {regions} {others} first second agree =
    ap (map (map (without_dead dead))) first ∙ (agree ∙ sym (ap (map (map (without_dead dead))) second))

-- ---- one region

without_more : (dead more : List ℕ) → Within dead more → (ids : List ℕ) → without_dead more (without_dead dead ids) ≡ without_dead more ids
without_more dead more within [] = refl
without_more dead more within (x ∷ ids) = go (has_id dead x) refl (without_more dead more within ids)
  where
    go : (b : Bool) → has_id dead x ≡ b → without_dead more (without_dead dead ids) ≡ without_dead more ids →
        without_dead more (cond (not b) (x ∷ without_dead dead ids) (without_dead dead ids)) ≡ without_dead more (x ∷ ids)
    go true is rest = rw (within x is) rest
    go false is rest = ap (λ (xs : List ℕ). cond (not (has_id more x)) (x ∷ xs) xs) rest

without_all : (dead ids : List ℕ) → All (λ id. has_id dead id ≡ true) ids → without_dead dead ids ≡ []
without_all dead [] all = refl
without_all dead (x ∷ ids) all =
    rw (All-head (λ id. has_id dead id ≡ true) x ids all) (without_all dead ids (All-tail (λ id. has_id dead id ≡ true) x ids all))

-- ids that stay, where what is asserted of them stays
without-kept : (keeps : ℕ → Bool) (dead ids : List ℕ) → without_dead (filter keeps dead) (filter keeps ids) ≡ filter keeps (without_dead dead ids)
without-kept keeps dead [] = refl
without-kept keeps dead (x ∷ ids) = go (keeps x) refl (has_id dead x) refl (without-kept keeps dead ids)
  where
    go : (k : Bool) → keeps x ≡ k → (b : Bool) → has_id dead x ≡ b →
        without_dead (filter keeps dead) (filter keeps ids) ≡ filter keeps (without_dead dead ids) →
        without_dead (filter keeps dead) (cond k (x ∷ filter keeps ids) (filter keeps ids)) ≡ filter keeps (cond (not b) (x ∷ without_dead dead ids) (without_dead dead ids))
    go true stays true is rest = rw (has_id-filter keeps dead x, stays, is) rest
    go true stays false is rest = rw (has_id-filter keeps dead x, stays, is) (ap (λ (xs : List ℕ). x ∷ xs) rest)
    go false goes true is rest = rest
    go false goes false is rest = rw goes rest

-- ---- all regions

-- where they agree, they agree in what is asserted by more
pub agree-more : (dead more : List ℕ) → Within dead more → (regions others : List (List (List ℕ))) → Agree dead regions others → Agree more regions others
agree-more dead more within regions others agree =
    sym (less regions) ∙ (ap (map (map (without_dead more))) agree ∙ less others)
  where
    less : (all : List (List (List ℕ))) → map (map (without_dead more)) (map (map (without_dead dead)) all) ≡ map (map (without_dead more)) all
    less =
        map_agree (map (without_dead dead)) (map (without_dead more)) (map_agree (without_dead dead) (without_dead more) (without_more dead more within))

-- and they do where some ids stay
pub agree-kept : (keeps : ℕ → Bool) (dead : List ℕ) (regions others : List (List (List ℕ))) → Agree dead regions others →
    Agree (filter keeps dead) (map (map (filter keeps)) regions) (map (map (filter keeps)) others)
agree-kept keeps dead regions others agree = each regions ∙ (ap (map (map (filter keeps))) agree ∙ sym (each others))
  where
    of_thread : (rs : List (List ℕ)) → map (without_dead (filter keeps dead)) (map (filter keeps) rs) ≡ map (filter keeps) (map (without_dead dead) rs)
    of_thread [] = refl
    of_thread (r ∷ rs) = λ i. without-kept keeps dead r i ∷ of_thread rs i

    each : (all : List (List (List ℕ))) → map (map (without_dead (filter keeps dead))) (map (map (filter keeps)) all) ≡ map (map (filter keeps)) (map (map (without_dead dead)) all)
    each [] = refl
    each (rs ∷ all) = λ i. of_thread rs i ∷ each all i

module _ (dead : List ℕ) (regions others : List (List (List ℕ))) (agree : Agree dead regions others) (thread : ℕ) where
  of_thread : map (without_dead dead) (regions_of regions thread) ≡ map (without_dead dead) (regions_of others thread)
  of_thread =
      sym (get_or-map (map (without_dead dead)) regions thread [])
      ∙ (ap (λ (all : List (List (List ℕ))). get_or all thread []) agree ∙ get_or-map (map (without_dead dead)) others thread [])

  -- where one thread's regions change
  changed : (left more : List (List ℕ)) → map (without_dead dead) left ≡ map (without_dead dead) more → Agree dead (set regions thread left) (set others thread more)
  changed left more same =
      map-set (map (without_dead dead)) regions thread left
      ∙ ((λ i. set (agree i) thread (same i)) ∙ sym (map-set (map (without_dead dead)) others thread more))

  pub agree-start : Agree dead (with_region regions thread) (with_region others thread)
  agree-start = changed ([] ∷ regions_of regions thread) ([] ∷ regions_of others thread) (ap (λ rs. [] ∷ rs) of_thread)

  pub agree-note : (id : ℕ) → Agree dead (with_member regions thread id) (with_member others thread id)
  agree-note id =
      changed (map (λ (r : List ℕ). r ++ id ∷ []) (regions_of regions thread)) (map (λ (r : List ℕ). r ++ id ∷ []) (regions_of others thread))
      (noted (regions_of regions thread) ∙ (ap (map (λ (r : List ℕ). r ++ without_dead dead (id ∷ []))) of_thread ∙ sym (noted (regions_of others thread))))
    where
      noted : (rs : List (List ℕ)) → map (without_dead dead) (map (λ (r : List ℕ). r ++ id ∷ []) rs) ≡ map (λ (r : List ℕ). r ++ without_dead dead (id ∷ [])) (map (without_dead dead) rs)
      noted [] = refl
      noted (r ∷ rs) = λ i. filter-append (λ x. not (has_id dead x)) r (id ∷ []) i ∷ noted rs i

  innermost_agree : without_dead dead (innermost regions thread) ≡ without_dead dead (innermost others thread)
  innermost_agree =
      sym (get_or-map (without_dead dead) (regions_of regions thread) 0 [])
      ∙ (ap (λ (rs : List (List ℕ)). get_or rs 0 []) of_thread ∙ get_or-map (without_dead dead) (regions_of others thread) 0 [])

  -- where what is unasserted in the innermost region is asserted dead, and it ends
  pub agree-finish : AreNested (regions_of others thread) → All (λ id. has_id dead id ≡ true) (innermost others thread) →
      Agree dead (without_innermost regions thread) (without_innermost_ids others thread)
  agree-finish nested asserted =
      changed (drop 1 (regions_of regions thread)) (outer_without (regions_of others thread))
      (sym (drop-map (without_dead dead) 1 (regions_of regions thread))
      ∙ (ap (drop 1) of_thread
      ∙ (drop-map (without_dead dead) 1 (regions_of others thread)
      ∙ (ap (map (without_dead dead)) (sym nested) ∙ map_agree (λ (r : List ℕ). r ++ innermost others thread) (without_dead dead) rest (outer_without (regions_of others thread))))))
    where
      rest : (r : List ℕ) → without_dead dead (r ++ innermost others thread) ≡ without_dead dead r
      rest r =
          filter-append (λ x. not (has_id dead x)) r (innermost others thread)
          ∙ (ap (λ (xs : List ℕ). without_dead dead r ++ xs) (without_all dead (innermost others thread) asserted) ∙ append-nil (without_dead dead r))

-- ---- what is asserted dead

pub within-insert : (dead : List ℕ) (id : ℕ) → Within dead (insert_key nat_cmp dead id)
within-insert dead id other is = has_id-insert_key dead id other ∙ or_right _ _ is

pub within-inserted : (ids dead : List ℕ) → Within dead (fold (insert_key nat_cmp) dead ids)
within-inserted [] dead other is = is
within-inserted (x ∷ ids) dead other is = within-inserted ids (insert_key nat_cmp dead x) other (within-insert dead x other is)

pub all-inserted : (ids dead : List ℕ) → All (λ id. has_id (fold (insert_key nat_cmp) dead ids) id ≡ true) ids
all-inserted [] dead = All-nil _
all-inserted (x ∷ ids) dead =
    All-cons (λ id. has_id (fold (insert_key nat_cmp) dead (x ∷ ids)) id ≡ true) x ids
    (within-inserted ids (insert_key nat_cmp dead x) x (has_id-insert_key dead x x ∙ or_left _ _ (eq-eqb x x refl)))
    (all-inserted ids (insert_key nat_cmp dead x))

less_from_cmp : (a b : ℕ) → nat_cmp a b ≡ Less → a < b
less_from_cmp a b below = grind (arith, nat_tests)

-- An id that is there already changes nothing.
insert-there : (dead : List ℕ) (id : ℕ) → IsStrictlySortedBy nat_cmp dead → has_id dead id ≡ true → insert_key nat_cmp dead id ≡ dead
insert-there [] id sorted there = absurd (false≢true there)
insert-there (x ∷ dead) id sorted there = go (nat_cmp id x) refl (insert-there dead id (sorted_tail nat_cmp x dead sorted))
  where
    not_below : nat_cmp id x ≡ Less → ⊥
    not_below below =
        let found = (has_id-Contains (x ∷ dead) id).0 there in
        let least =
        All-contains (λ y. x ≤ y) (x ∷ dead) id
        (All-cons (λ y. x ≤ y) x dead (omega arith)
        (All-weaker (λ y. nat_cmp x y ≡ Less) (λ y. x ≤ y) (λ y above. let more = less_from_cmp x y above in omega arith) dead
        (All-after_first nat_cmp x dead sorted))) found in
        let less = less_from_cmp id x below in
        omega arith

    later : nat_cmp id x ≡ Greater → has_id dead id ≡ true
    later above =
        ⊎_elim
        (λ here. absurd (not_same (eqb-true x id here) above))
        (λ rest. rest)
        (or_cases _ _ there)
      where
        not_same : x ≡ id → nat_cmp id x ≡ Greater → ⊥
        not_same same above = grind (arith, nat_tests)

    go : (c : Ordering) → nat_cmp id x ≡ c → (has_id dead id ≡ true → insert_key nat_cmp dead id ≡ dead) → match_ordering c (id ∷ x ∷ dead) (x ∷ dead) (x ∷ insert_key nat_cmp dead id) ≡ x ∷ dead
    go Less is rest = absurd (not_below is)
    go Equal is rest = refl
    go Greater is rest = ap (λ (xs : List ℕ). x ∷ xs) (rest (later is))

-- Ids of which some are there already are put in as the others alone are.
inserted-without : (some dead : List ℕ) → Within some dead → IsStrictlySortedBy nat_cmp dead → (ids : List ℕ) →
    fold (insert_key nat_cmp) dead (without_dead some ids) ≡ fold (insert_key nat_cmp) dead ids
inserted-without some dead within sorted [] = refl
inserted-without some dead within sorted (x ∷ ids) = go (has_id some x) refl (λ more grown still. inserted-without some more grown still ids)
  where
    go : (b : Bool) → has_id some x ≡ b →
        ((more : List ℕ) → Within some more → IsStrictlySortedBy nat_cmp more → fold (insert_key nat_cmp) more (without_dead some ids) ≡ fold (insert_key nat_cmp) more ids) →
        fold (insert_key nat_cmp) dead (cond (not b) (x ∷ without_dead some ids) (without_dead some ids)) ≡ fold (insert_key nat_cmp) (insert_key nat_cmp dead x) ids
    go true is rest =
        rest dead within sorted ∙ ap (λ (ks : List ℕ). fold (insert_key nat_cmp) ks ids) (sym (insert-there dead x sorted (within x is)))
    go false is rest =
        rest (insert_key nat_cmp dead x) (λ id there. within-insert dead x id (within id there)) (sorted-insert_key nat_cmp nat_cmp_total dead x sorted)

-- What is unasserted in the innermost region is asserted dead as all that is in it.
pub inserted_agree : (dead : List ℕ) → IsStrictlySortedBy nat_cmp dead → (regions others : List (List (List ℕ))) → Agree dead regions others →
    (thread : ℕ) → fold (insert_key nat_cmp) dead (innermost others thread) ≡ fold (insert_key nat_cmp) dead (innermost regions thread)
inserted_agree dead sorted regions others agree thread =
    sym (inserted-without dead dead (λ id there. there) sorted (innermost others thread))
    ∙ (ap (fold (insert_key nat_cmp) dead) (sym (innermost_agree dead regions others agree thread)) ∙ inserted-without dead dead (λ id there. there) sorted (innermost regions thread))
