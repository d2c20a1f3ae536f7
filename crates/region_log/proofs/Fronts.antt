-- Loops that change the elements of a list one after another: a front of it is changed, and the rest is as before.
use Rattle.std.proofs.Common.{◌≡◌, ℕ, zero, suc, ◌+◌, ◌<◌, ◌≤◌, List, [], ◌∷◌, ◌++◌, length, map, get_or, set, refl, sym, ap, ◌∙◌, subst, arith, reverse}
use Rattle.std.proofs.lemmas.List.{map-append}
use Rattle.std.proofs.lemmas.Grind.{reverse_onto}

-- the first n elements are changed
pub map_first : {X : Type 0} → (X → X) → ℕ → List X → List X
map_first f zero xs = xs
map_first f (suc n) [] = []
map_first f (suc n) (x ∷ xs) = f x ∷ map_first f n xs

module _ {X : Type 0} (f : X → X) where
  pub map_first-none : (xs : List X) → map_first f 0 xs ≡ xs
  unfolding map_first
  map_first-none xs = refl

  first_suc : (n : ℕ) (xs : List X) (d : X) → n < length xs → set (map_first f n xs) n (f (get_or xs n d)) ≡ map_first f (suc n) xs
  unfolding map_first
  first_suc n [] d l = absurd (omega arith)
  first_suc zero (x ∷ xs) d l = refl
  first_suc (suc n) (x ∷ xs) d l = λ i. f x ∷ first_suc n xs d (omega arith) i

  pub get_or-map_first : (n : ℕ) (xs : List X) (d : X) → get_or (map_first f n xs) n d ≡ get_or xs n d
  unfolding map_first
  get_or-map_first zero xs d = refl
  get_or-map_first (suc n) [] d = refl
  get_or-map_first (suc n) (x ∷ xs) d = get_or-map_first n xs d

  -- with the next one changed too
  pub map_first-next : (n : ℕ) (xs : List X) (d : X) → n < length xs → set (map_first f n xs) n (f (get_or xs n d)) ≡ map_first f (n + 1) xs
  map_first-next n xs d l = let e : suc n ≡ n + 1 = omega arith in first_suc n xs d l ∙ ap (λ k. map_first f k xs) e

  pub map_first-all : (n : ℕ) (xs : List X) → length xs ≤ n → map_first f n xs ≡ map f xs
  unfolding map_first
  map_first-all zero [] l = refl
  map_first-all zero (x ∷ xs) l = absurd (omega arith)
  map_first-all (suc n) [] l = refl
  map_first-all (suc n) (x ∷ xs) l = λ i. f x ∷ map_first-all n xs (omega arith) i

  pub length-map_first : (n : ℕ) (xs : List X) → length (map_first f n xs) ≡ length xs
  unfolding map_first
  length-map_first zero xs = refl
  length-map_first (suc n) [] = refl
  length-map_first (suc n) (x ∷ xs) = let e = length-map_first n xs in omega arith

  -- One turn of a loop: element n is changed, where those before it were.
  pub turn : (n : ℕ) (zs ys : List X) (z d : X) → ys ≡ map_first f n zs → n < length ys → z ≡ f (get_or ys n d) → set ys n z ≡ map_first f (n + 1) zs
  turn n zs ys z d so_far here changed =
      let in_old : n < length zs = subst (λ k. n < k) (ap length so_far ∙ length-map_first n zs) here in
      ap (λ l. set l n z) so_far
      ∙ (ap (set (map_first f n zs) n) (changed ∙ ap f (ap (λ l. get_or l n d) so_far ∙ get_or-map_first n zs d))
      ∙ map_first-next n zs d in_old)

  -- After the last turn each element is changed.
  pub all_turned : (n : ℕ) (zs ys : List X) → ys ≡ map_first f n zs → length ys ≤ n → ys ≡ map f zs
  all_turned n zs ys so_far done = so_far ∙ map_first-all n zs (subst (λ k. k ≤ n) (ap length so_far ∙ length-map_first n zs) done)

-- ---- the other way round

module _ {X Y : Type 0} (f : X → Y) where
  pub map-reverse : (xs : List X) → map f (reverse xs) ≡ reverse (map f xs)
  map-reverse [] = refl
  map-reverse (x ∷ xs) =
      ap (map f) (reverse_onto xs x [])
      ∙ (map-append f (reverse xs) (x ∷ [])
      ∙ (ap (λ l. l ++ f x ∷ []) (map-reverse xs)
      ∙ sym (reverse_onto (map f xs) (f x) [])))
