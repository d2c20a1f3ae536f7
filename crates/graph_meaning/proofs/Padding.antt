-- A list that is padded with a value.
use Rattle.std.proofs.Common.{◌≡◌, ℕ, ◌+◌, ◌-◌, ◌<◌, ◌≤◌, List, [], ◌∷◌, ◌++◌, length, get_or, set, replicate, sym, ap, refl, ◌∙◌, arith, append_assoc, append-nil}
use Rattle.std.proofs.lemmas.List.{length-append, length-set, length-replicate, set-append_left, replicate-append-replicate, get_or_append_left, get_or-append_right, get_or-replicate}
use Rattle.graph_meaning.specs.Owners.{with_padding}

module _ {X : Type 0} where
  pub length-padded : (xs : List X) (n : ℕ) (x : X) → length xs ≤ n → length (with_padding xs n x) ≡ n
  length-padded xs n x few =
      let a = length-append xs (replicate (n - length xs) x) in
      let b = length-replicate (n - length xs) x in
      omega (arith, a, b, few)

  -- a list that is long enough
  pub padded-none : (xs : List X) (n : ℕ) (x : X) → n ≤ length xs → with_padding xs n x ≡ xs
  padded-none xs n x enough =
      let none : n - length xs ≡ 0 = omega (arith, enough) in
      ap (λ (k : ℕ). xs ++ replicate k x) none ∙ append-nil xs

  -- one value more
  pub padded-more : (xs : List X) (n : ℕ) (x : X) → length xs ≤ n → with_padding xs n x ++ x ∷ [] ≡ with_padding xs (n + 1) x
  padded-more xs n x few =
      let k : ℕ = n - length xs in
      let one : k + 1 ≡ n + 1 - length xs = omega (arith, few) in
      append_assoc xs (replicate k x) (x ∷ []) ∙ ap (λ ys. xs ++ ys) (replicate-append-replicate k 1 x ∙ ap (λ m. replicate m x) one)

  -- An element is set where the list was padded up to it. Where the list was longer, nothing was padded.
  pub set-padded : (xs : List X) (n i : ℕ) (x y : X) → length xs ≤ n → i < n → with_padding (set (with_padding xs (i + 1) x) i y) n x ≡ set (with_padding xs n x) i y
  set-padded xs n i x y few within =
      let up = with_padding xs (i + 1) x in
      let more : ℕ = i + 1 - length xs in
      let rest : ℕ = n - length up in
      let many = length-append xs (replicate more x) in
      let added = length-replicate more x in
      let inside : i < length up = omega (arith, many, added) in
      let sum : more + rest ≡ n - length xs = omega (arith, many, added, few, within) in
      ap (λ (k : ℕ). set up i y ++ replicate (n - k) x) (length-set up i y)
      ∙ sym (set-append_left up (replicate rest x) i y inside)
      ∙ ap (λ ys. set ys i y) (append_assoc xs (replicate more x) (replicate rest x) ∙ ap (λ ys. xs ++ ys) (replicate-append-replicate more rest x ∙ ap (λ k. replicate k x) sum))

  pub padded-front : (xs : List X) (n i : ℕ) (x other : X) → i < length xs → get_or (with_padding xs n x) i other ≡ get_or xs i other
  padded-front xs n i x other within = get_or_append_left xs (replicate (n - length xs) x) other i within

  pub padded-rest : (xs : List X) (n i : ℕ) (x other : X) → length xs ≤ i → i < n → get_or (with_padding xs n x) i other ≡ x
  padded-rest xs n i x other behind within =
      get_or-append_right xs (replicate (n - length xs) x) (length xs) i other refl behind ∙ get_or-replicate (n - length xs) (i - length xs) x other (omega (arith, behind, within))
