-- Numbers that rise are the list of those that stand in it.
use Rattle.std.proofs.Common.{◌≡◌, ◌≢◌, ℕ, zero, suc, ◌<◌, true, false, ◌||◌, ⊎_elim, List, [], ◌∷◌, sym, ap, refl, ◌∙◌, arith, eqb-true}
use Rattle.std.specs.List.{AllPairs}
use Rattle.std.specs.List.Sorted.{IsStrictlySortedBy}
use Rattle.std.specs.Ordering.{nat_cmp}
use Rattle.std.proofs.lemmas.Bool.{false≢true, cases_eq, ne_eqb, or_cases, false_from_ne_true}
use Rattle.std.proofs.lemmas.List.Kept.{AllPairs-from_increasing}
use Rattle.std.proofs.lemmas.Map.Keys.{IsStrictlyIncreasing-from_sorted}
use Rattle.graph_meaning.specs.Reach.{has_id}
use Rattle.graph_meaning.proofs.Membership.{has_id-head}

abbrev pub Rise : List ℕ → Type 0
Rise xs = AllPairs (λ x y. x < y) xs

pub Rise-sorted : (xs : List ℕ) → IsStrictlySortedBy nat_cmp xs → Rise xs
Rise-sorted xs sorted = AllPairs-from_increasing xs (IsStrictlyIncreasing-from_sorted xs sorted)

pub Rise-tail : (x : ℕ) (xs : List ℕ) → Rise (x ∷ xs) → Rise xs
Rise-tail x xs rise i j d less within = rise (suc i) (suc j) d (omega arith) (omega arith)

-- the first is below each other
pub Rise-head : (x : ℕ) (xs : List ℕ) → Rise (x ∷ xs) → (y : ℕ) → has_id xs y ≡ true → x < y
Rise-head x [] rise y at = absurd (false≢true at)
Rise-head x (z ∷ xs) rise y at =
    let below : x < z = rise zero (suc zero) 0 (omega arith) (omega arith) in
    ⊎_elim
    (λ here. let e : z ≡ y = eqb-true z y here in omega arith)
    (λ later. let next : z < y = Rise-head z xs (Rise-tail x (z ∷ xs) rise) y later in omega arith)
    (or_cases _ _ at)

-- Two lists that rise and have the same numbers are the same.
pub same_rising : (xs ys : List ℕ) → Rise xs → Rise ys → ((y : ℕ) → has_id xs y ≡ has_id ys y) → xs ≡ ys
same_rising [] [] rise_xs rise_ys same = refl
same_rising [] (y ∷ ys) rise_xs rise_ys same = absurd (false≢true (same y ∙ has_id-head ys y))
same_rising (x ∷ xs) [] rise_xs rise_ys same = absurd (false≢true (sym (same x) ∙ has_id-head xs x))
same_rising (x ∷ xs) (y ∷ ys) rise_xs rise_ys same =
    ap (λ z. z ∷ xs) first ∙ ap (λ zs. y ∷ zs) (same_rising xs ys (Rise-tail x xs rise_xs) (Rise-tail y ys rise_ys) rest)
  where
    above_xs : (z : ℕ) → has_id xs z ≡ true → x < z
    above_xs = Rise-head x xs rise_xs

    above_ys : (z : ℕ) → has_id ys z ≡ true → y < z
    above_ys = Rise-head y ys rise_ys

    first : x ≡ y
    first =
        ⊎_elim
        (λ here. sym (eqb-true y x here))
        (λ later. ⊎_elim (λ here. eqb-true x y here) (λ after. let a = above_ys x later in let b = above_xs y after in absurd (omega arith)) (or_cases _ _ (same y ∙ has_id-head ys y)))
        (or_cases _ _ (sym (same x) ∙ has_id-head xs x))

    none_xs : has_id xs x ≡ false
    none_xs = false_from_ne_true _ (λ at. let a = above_xs x at in omega arith)

    none_ys : has_id ys x ≡ false
    none_ys = false_from_ne_true _ (λ at. let a = above_ys x at in let e = first in omega arith)

    rest : (z : ℕ) → has_id xs z ≡ has_id ys z
    rest z = ⊎_elim at_first after (cases_eq x z)
      where
        at_first : x ≡ z → has_id xs z ≡ has_id ys z
        at_first e = ap (has_id xs) (sym e) ∙ none_xs ∙ sym none_ys ∙ ap (has_id ys) e

        after : x ≢ z → has_id xs z ≡ has_id ys z
        after ne =
            let e : has_id (x ∷ xs) z ≡ has_id xs z = ap (λ b. b || has_id xs z) (ne_eqb x z ne) in
            let f : has_id (y ∷ ys) z ≡ has_id ys z = ap (λ b. b || has_id ys z) (ne_eqb y z (λ g. ne (first ∙ g))) in
            sym e ∙ same z ∙ f
