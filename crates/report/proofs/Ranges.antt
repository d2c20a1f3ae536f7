-- Parts of a list, and how what is written of one grows by an element.
use Rattle.std.proofs.Common.{◌≡◌, ℕ, ◌+◌, ◌-◌, ◌<◌, ◌≤◌, min, List, [], ◌∷◌, ◌++◌, length, take, drop, get_or, Some, arith, slice_get, slice_range}
use Rattle.std.proofs.lemmas.List.{take_more, take_min, take_rest, get_or-drop, length-drop, flat_map_more}
use Rattle.std.proofs.lemmas.Option.{slice_get_within, get_or_from_slice_get}
use Rattle.std.proofs.lemmas.Grind.{common_steps}
use Rattle.std.specs.List.{flat_map}

-- one more element
take_next : {X : Type 0} (xs : List X) (i : ℕ) (x : X) → slice_get xs i ≡ Some x → take (i + 1) xs ≡ take i xs ++ x ∷ []
take_next xs i x is =
    let within : i < length xs = slice_get_within xs i x is in
    let same : get_or xs i x ≡ x = get_or_from_slice_get xs i x x is in
    rw (take_more xs i x within, same)

-- the same of a part that starts further on
slice_range_next : {X : Type 0} (xs : List X) (start i : ℕ) (x : X) → start ≤ i → slice_get xs i ≡ Some x → slice_range xs start (i + 1) ≡ slice_range xs start i ++ x ∷ []
slice_range_next xs start i x le is =
    let within : i < length xs = slice_get_within xs i x is in
    let same : get_or xs i x ≡ x = get_or_from_slice_get xs i x x is in
    let inner : i - start < length (drop start xs) = omega (arith, length-drop start xs) in
    let one_more : i + 1 - start ≡ i - start + 1 = omega arith in
    let there : start + (i - start) ≡ i = omega arith in
    rw (one_more, take_more (drop start xs) (i - start) x inner, get_or-drop start xs (i - start) x, there, same)

pub flat_map_take_next : {X A : Type 0} (f : X → List A) (before : List A) (xs : List X) (i : ℕ) (x : X) → slice_get xs i ≡ Some x →
    (before ++ flat_map f (take i xs)) ++ f x ≡ before ++ flat_map f (take (i + 1) xs)
flat_map_take_next f before xs i x is = rw (take_next xs i x is) (flat_map_more f before (take i xs) x)

pub flat_map_range_next : {X A : Type 0} (f : X → List A) (before : List A) (xs : List X) (start i : ℕ) (x : X) → start ≤ i →
    slice_get xs i ≡ Some x → (before ++ flat_map f (slice_range xs start i)) ++ f x ≡ before ++ flat_map f (slice_range xs start (i + 1))
flat_map_range_next f before xs start i x le is = rw (slice_range_next xs start i x le is) (flat_map_more f before (slice_range xs start i) x)

-- the first n elements, or all where there are fewer
pub slice_range_first : {X : Type 0} (xs : List X) (n : ℕ) → slice_range xs 0 (min (length xs) n) ≡ take n xs
slice_range_first xs n = grind (arith, common_steps, take_min n xs)

-- those after the first n
pub slice_range_rest : {X : Type 0} (xs : List X) (n : ℕ) → slice_range xs (min (length xs) n) (length xs) ≡ drop n xs
slice_range_rest xs n = grind (arith, common_steps, take_rest xs (min (length xs) n))
