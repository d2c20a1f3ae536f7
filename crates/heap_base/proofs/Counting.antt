-- Facts on sums over lists and on how often something stands in a list.
use Rattle.std.proofs.Common.{◌≡◌, ℕ, zero, suc, ◌+◌, ◌<◌, ◌≤◌, Bool, true, false, cond, ⊎_elim, List, [], ◌∷◌, ◌++◌, length, filter, map, set, sym, refl, ap, ◌∙◌, arith, eqb, eq-eqb}
use Rattle.std.specs.List.{flat_map}
use Rattle.std.proofs.lemmas.Bool.{cases_eq, false≢true, true≢false, ne_eqb}
use mathlib.Core.Option.{some, some-injective, some-ne-none}
use lib.ListN.{get_elem?}
use Rattle.heap_base.specs.Counting.{bit, is_positive, total, times, AsOften}

pub is_positive-from : (n : ℕ) → 0 < n → is_positive n ≡ true
is_positive-from zero l = absurd (omega arith)
is_positive-from (suc n) l = refl

pub is_positive-true : (n : ℕ) → is_positive n ≡ true → 0 < n
is_positive-true zero e = absurd (false≢true e)
is_positive-true (suc n) e = omega arith

pub is_positive-false : (n : ℕ) → is_positive n ≡ false → n ≡ 0
is_positive-false zero e = refl
is_positive-false (suc n) e = absurd (true≢false e)

pub is_positive-bit : (b : Bool) → is_positive (bit b) ≡ b
is_positive-bit true = refl
is_positive-bit false = refl

pub bit-le : (b : Bool) → bit b ≤ 1
bit-le true = omega arith
bit-le false = omega arith

-- ---- sums of one function

module _ {X : Type 0} (f : X → ℕ) where
  pub total-append : (xs ys : List X) → total f (xs ++ ys) ≡ total f xs + total f ys
  total-append [] ys = omega arith
  total-append (x ∷ xs) ys = let r = total-append xs ys in omega arith

  pub total-snoc : (xs : List X) (y : X) → total f (xs ++ y ∷ []) ≡ total f xs + f y
  total-snoc [] y = omega arith
  total-snoc (x ∷ xs) y = let r = total-snoc xs y in omega arith

  -- the sum after a change of one element
  pub total-set : (xs : List X) (i : ℕ) (v w : X) → get_elem? xs i ≡ some v → total f (set xs i w) + f v ≡ total f xs + f w
  total-set [] i v w e = absurd (some-ne-none v (sym e))
  total-set (x ∷ xs) zero v w e = let is : f x ≡ f v = ap f (some-injective x v e) in omega arith
  total-set (x ∷ xs) (suc i) v w e = let r = total-set xs i v w e in omega arith

  -- an element adds at most the sum
  pub le_total : (xs : List X) (i : ℕ) (v : X) → get_elem? xs i ≡ some v → f v ≤ total f xs
  le_total [] i v e = absurd (some-ne-none v (sym e))
  le_total (x ∷ xs) zero v e = let is : f x ≡ f v = ap f (some-injective x v e) in omega arith
  le_total (x ∷ xs) (suc i) v e = let r = le_total xs i v e in omega arith

  pub total-set_same : (xs : List X) (i : ℕ) (v w : X) → get_elem? xs i ≡ some v → f w ≡ f v → total f (set xs i w) ≡ total f xs
  total-set_same xs i v w at e = let t = total-set xs i v w at in omega arith

  -- two elements of which one takes over what the other adds
  pub total-joined : (xs : List X) (id other : ℕ) (v w both spent : X) → get_elem? xs id ≡ some v → get_elem? (set xs id both) other ≡ some w → f both ≡ f v + f w → f spent ≡ 0
      → total f (set (set xs id both) other spent) ≡ total f xs
  total-joined xs id other v w both spent at at' e z = let a = total-set xs id v both at in let b = total-set (set xs id both) other w spent at' in omega arith

  pub total-filter : (p : X → Bool) (xs : List X) → total f (filter p xs) ≡ total (λ x. cond (p x) (f x) 0) xs
  total-filter p [] = refl
  total-filter p (x ∷ xs) = go (p x) (total-filter p xs)
    where
      go : (b : Bool) → total f (filter p xs) ≡ total (λ z. cond (p z) (f z) 0) xs → total f (cond b (x ∷ filter p xs) (filter p xs)) ≡ cond b (f x) 0 + total (λ z. cond (p z) (f z) 0) xs
      go true r = omega arith
      go false r = omega arith

pub total-ones : {X : Type 0} (xs : List X) → total (λ _. 1) xs ≡ length xs
total-ones [] = refl
total-ones (x ∷ xs) = let r = total-ones xs in omega arith

pub total-zero : {X : Type 0} (xs : List X) → total (λ _. 0) xs ≡ 0
total-zero [] = refl
total-zero (x ∷ xs) = let r = total-zero xs in omega arith

pub total-map : {X Y : Type 0} (f : Y → ℕ) (g : X → Y) (xs : List X) → total f (map g xs) ≡ total (λ x. f (g x)) xs
total-map f g [] = refl
total-map f g (x ∷ xs) = let r = total-map f g xs in omega arith

pub total-flat_map : {X Y : Type 0} (f : Y → ℕ) (g : X → List Y) (xs : List X) → total f (flat_map g xs) ≡ total (λ x. total f (g x)) xs
total-flat_map f g [] = refl
total-flat_map f g (x ∷ xs) = let r = total-flat_map f g xs in let a = total-append f (g x) (flat_map g xs) in omega arith

-- ---- sums of two functions

module _ {X : Type 0} (f g : X → ℕ) where
  pub total-same : ((x : X) → f x ≡ g x) → (xs : List X) → total f xs ≡ total g xs
  total-same e [] = refl
  total-same e (x ∷ xs) = let r = total-same e xs in let s = e x in omega arith

  pub total-le : ((x : X) → f x ≤ g x) → (xs : List X) → total f xs ≤ total g xs
  total-le e [] = omega arith
  total-le e (x ∷ xs) = let r = total-le e xs in let s = e x in omega arith

  pub total-sum : (xs : List X) → total (λ x. f x + g x) xs ≡ total f xs + total g xs
  total-sum [] = refl
  total-sum (x ∷ xs) = let r = total-sum xs in omega arith

  none_left : (xs : List X) → ((i : ℕ) (u : X) → get_elem? xs i ≡ some u → g u ≡ 0 → f u ≡ 0) → total g xs ≡ 0 → total f xs ≡ 0
  none_left [] h e = omega arith
  none_left (x ∷ xs) h e =
      let a = h 0 x refl (omega arith) in
      let b = none_left xs (λ i u at. h (suc i) u at) (omega arith) in
      omega arith

  -- Where f adds nothing at each element at which g adds nothing, and one element has the whole sum of g, it has
  -- the whole sum of f.
  pub only_one : (xs : List X) → ((i : ℕ) (u : X) → get_elem? xs i ≡ some u → g u ≡ 0 → f u ≡ 0) → (id : ℕ) (v : X) → get_elem? xs id ≡ some v → total g xs ≡ g v → total f xs ≡ f v
  only_one [] h id v at e = absurd (some-ne-none v (sym at))
  only_one (x ∷ xs) h zero v at e =
      let same : g x ≡ g v = ap g (some-injective x v at) in
      let a : f x ≡ f v = ap f (some-injective x v at) in
      let b = none_left xs (λ i u at'. h (suc i) u at') (omega arith) in
      omega arith
  only_one (x ∷ xs) h (suc id) v at e =
      let few = le_total g xs id v at in
      let a = h 0 x refl (omega arith) in
      let b = only_one xs (λ i u at'. h (suc i) u at') id v at (omega arith) in
      omega arith

-- ---- how often a number stands in a list

pub times-append : (x : ℕ) (xs ys : List ℕ) → times x (xs ++ ys) ≡ times x xs + times x ys
times-append x xs ys = total-append (λ y. bit (eqb y x)) xs ys

-- a number stands at most as often as the list is long
pub times-le : (x : ℕ) (xs : List ℕ) → times x xs ≤ length xs
times-le x [] = omega arith
times-le x (y ∷ xs) = let r = times-le x xs in let b = bit-le (eqb y x) in omega arith

pub times-filter : (p : ℕ → Bool) (x : ℕ) (xs : List ℕ) → times x (filter p xs) ≡ cond (p x) (times x xs) 0
times-filter p x xs = total-filter (λ y. bit (eqb y x)) p xs ∙ go (p x) refl
  where
    here : (b : Bool) → p x ≡ b → (y : ℕ) → cond (p y) (bit (eqb y x)) 0 ≡ cond b (bit (eqb y x)) 0
    here b e y =
        ⊎_elim
        (λ (s : y ≡ x). ap (λ c. cond c (bit (eqb y x)) 0) (ap p s ∙ e))
        (λ ne. rw (ne_eqb y x ne) (both_zero (p y) ∙ sym (both_zero b)))
        (cases_eq y x)
      where
        both_zero : (c : Bool) → cond {A = ℕ} c 0 0 ≡ 0
        both_zero true = refl
        both_zero false = refl

    go : (b : Bool) → p x ≡ b → total (λ y. cond (p y) (bit (eqb y x)) 0) xs ≡ cond b (times x xs) 0
    go true e = total-same _ _ (here true e) xs
    go false e = total-same _ _ (here false e) xs ∙ total-zero xs

-- ---- as often, from how often each number stands

-- a list with x is made of what is before it and after it
split_at : (x : ℕ) (xs : List ℕ) → 0 < times x xs → (before : List ℕ) × (after : List ℕ) × (xs ≡ before ++ x ∷ after)
split_at x [] l = absurd (omega arith)
split_at x (y ∷ ys) l =
    ⊎_elim
    (λ (e : y ≡ x). ([], ys, ap (λ z. z ∷ ys) e))
    (λ ne. let z : bit (eqb y x) ≡ 0 = ap bit (ne_eqb y x ne) in let r = split_at x ys (omega arith) in (y ∷ r.0, r.1, ap (λ zs. y ∷ zs) r.2))
    (cases_eq y x)

pub as_often-from_times : (xs ys : List ℕ) → ((x : ℕ) → times x xs ≡ times x ys) → AsOften xs ys
as_often-from_times [] [] e f = refl
as_often-from_times [] (y ∷ ys) e f = absurd (let s = e y in let o : bit (eqb y y) ≡ 1 = ap bit (eq-eqb y y refl) in omega arith)
as_often-from_times (x ∷ xs) ys e f =
    let o : bit (eqb x x) ≡ 1 = ap bit (eq-eqb x x refl) in
    let s = e x in
    let r = split_at x ys (omega arith) in
    let rest : (z : ℕ) → times z xs ≡ times z (r.0 ++ r.1) =
    λ z. (let a = e z in let b = ap (times z) r.2 in let c = total-append (λ y. bit (eqb y z)) r.0 (x ∷ r.1) in let d = total-append (λ y. bit (eqb y z)) r.0 r.1 in omega arith) in
    let w = as_often-from_times xs (r.0 ++ r.1) rest f in
    let b = ap (total f) r.2 in
    let c = total-append f r.0 (x ∷ r.1) in
    let d = total-append f r.0 r.1 in
    omega arith
