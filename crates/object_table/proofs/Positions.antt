-- Where a list has the first element that passes a test.
use Rattle.std.proofs.Common.{◌≡◌, ℕ, ◌<◌, ◌≤◌, get_or, List, [], ◌∷◌, ◌++◌, length, Bool, true, false, cond, ltb, Some, None, is_some, slice_get, refl, sym, ap, subst, ◌∙◌, arith}
use Rattle.std.specs.Cmp.{IsEquivalence}
use Rattle.std.specs.List.{position, position_or_len, list_any, IsDistinct}
use Rattle.std.proofs.lemmas.List.{length_push}
use Rattle.std.proofs.lemmas.List.Folds.{position_or_len_push}
use Rattle.std.specs.Str.{bytes_eq}
use Rattle.std.proofs.lemmas.Bool.Decides.{nat_tests}
use Rattle.std.proofs.lemmas.List.Sums.{position_or_len_is}
use Rattle.std.proofs.lemmas.Map.Keys.{apart_from_distinct}
use Rattle.std.proofs.lemmas.Option.{get_or_from_slice_get, slice_get_within}
use Rattle.std.proofs.lemmas.Slice.Eq.{bytes_eq-Decides}

-- the first place is within the list exactly where some element passes
any_below : {X : Type 0} (p : X → Bool) (xs : List X) → ltb (position_or_len p xs) (length xs) ≡ list_any p xs
any_below p [] = refl
any_below p (x ∷ xs) = grind (arith, nat_tests, any_below p xs)

some_cond : {X : Type 0} (b : Bool) (x : X) → is_some (cond b (Some x) None) ≡ b
some_cond true x = refl
some_cond false x = refl

-- some element passes exactly where there is a first place
pub any-position : {X : Type 0} (p : X → Bool) (xs : List X) → list_any p xs ≡ is_some (position p xs)
any-position p xs = sym (some_cond _ (position_or_len p xs) ∙ any_below p xs)

at_most_all : {X : Type 0} (p : X → Bool) (xs : List X) → position_or_len p xs ≤ length xs
at_most_all p [] = omega arith
at_most_all p (x ∷ xs) = grind (arith, at_most_all p xs)

-- one more element is the first only where none was
pub position_push : {X : Type 0} (p : X → Bool) (xs : List X) (y : X) → position p (xs ++ y ∷ []) ≡ cond (is_some (position p xs)) (position p xs) (cond (p y) (Some (length xs)) None)
position_push p xs y = grind (arith, nat_tests, position_or_len_push p xs y, length_push xs y, at_most_all p xs)

-- one more element that no element before passes is the first
pub position_push_new : {X : Type 0} (p : X → Bool) (xs : List X) (y : X) → position p xs ≡ None → p y ≡ true → position p (xs ++ y ∷ []) ≡ Some (length xs)
position_push_new p xs y none passes = grind (arith, position_push p xs y)

pub bytes_eq-refl : (x : List ℕ) → bytes_eq x x ≡ true
bytes_eq-refl x = (bytes_eq-Decides x x).1 refl

-- texts are equal where they are the same
pub bytes_eq-equivalence : IsEquivalence bytes_eq
bytes_eq-equivalence = record {
  refl = bytes_eq-refl;
  symm = λ x y. grind (arith, bytes_eq-Decides x y, bytes_eq-Decides y x);
  congr = λ x y z same. ap (λ (w : List ℕ). bytes_eq w z) ((bytes_eq-Decides x y).0 same);
}

-- no name stands twice among none
pub distinct_none : IsDistinct bytes_eq []
unfolding IsDistinct
distinct_none = tt

-- where nothing stands twice, the place of each element is its own
pub position_distinct : (names : List (List ℕ)) (k : ℕ) → IsDistinct bytes_eq names → k < length names → position (bytes_eq (get_or names k [])) names ≡ Some k
position_distinct names k distinct h =
    let name : List ℕ = get_or names k [] in
    let before : (j : ℕ) → j < k → bytes_eq name (get_or names j []) ≡ false = λ j below. swapped (get_or names j []) name (apart_from_distinct bytes_eq names j k [] distinct below h) in
    let first : position_or_len (bytes_eq name) names ≡ k = position_or_len_is (bytes_eq name) names k [] (omega arith) before (λ _. (bytes_eq-Decides name name).1 refl) in
    grind (arith, nat_tests)
  where
    swapped : (a b : List ℕ) → bytes_eq a b ≡ false → bytes_eq b a ≡ false
    swapped a b apart = grind (arith, bytes_eq-Decides a b, bytes_eq-Decides b a)

-- and so is that of the name that stands there
pub position_named : (names : List (List ℕ)) (k : ℕ) (name : List ℕ) → IsDistinct bytes_eq names → slice_get names k ≡ Some name → position (bytes_eq name) names ≡ Some k
position_named names k name distinct at =
    let same : get_or names k [] ≡ name = get_or_from_slice_get names k name [] at in
    subst (λ n. position (bytes_eq n) names ≡ Some k) same (position_distinct names k distinct (slice_get_within names k name at))
