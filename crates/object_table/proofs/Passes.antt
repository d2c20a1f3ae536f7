-- A pass over a list: it changes each element, and adds up what it finds.
use Rattle.std.proofs.Common.{◌≡◌, ℕ, ◌+◌, ◌-◌, ◌<◌, ◌≤◌, List, ◌++◌, length, map, take, drop, set, get_or, slice_get, IfSome, refl, ◌∙◌, ap, arith, length-append}
use Rattle.std.specs.List.{sum_by}
use Rattle.std.proofs.lemmas.List.{append-nil, take_all, drop_all, length-map, length-take-le, length-drop, get_or-append_right, get_or-drop, get_or_default}
use Rattle.std.proofs.lemmas.List.Edits.{map_over_more}
use Rattle.std.proofs.lemmas.List.Sums.{sum_by_more, sum_by_more_le}
use Rattle.std.proofs.lemmas.Option.{slice_get-get_or}

module _ {X : Type 0} (f : X → X) (g : X → ℕ) where
  -- The elements before place i are changed, the others are as they were, and so much was found.
  pub record IsPassed (old now : List X) (i found : ℕ) : Type 0 where
    pub items : now ≡ map f (take i old) ++ drop i old
    pub count : found ≡ sum_by g (take i old)

  pub passed_none : (old : List X) → IsPassed old old 0 0
  passed_none old = record { items = refl; count = refl }

  module _ (old now : List X) (i found : ℕ) (is : IsPassed old now i found) where
    pub passed_long : i ≤ length old → length now ≡ length old
    passed_long h = omega (arith, ap length is.items, length-append (map f (take i old)) (drop i old), length-map (take i old) f, length-take-le i old h, length-drop i old)

    module _ (h : i < length old) where
      -- the next element is as it was
      pub next_is : (d : X) → get_or now i d ≡ get_or old i d
      next_is d =
          let front : length (map f (take i old)) ≡ i = length-map (take i old) f ∙ length-take-le i old (omega arith) in
          let here : i + (i - i) ≡ i = omega arith in
          ap (λ l. get_or l i d) is.items
          ∙ get_or-append_right (map f (take i old)) (drop i old) i i d front (omega arith)
          ∙ get_or-drop i old (i - i) d
          ∙ ap (λ k. get_or old k d) here

      pub passed_fits : (x : X) (n most : ℕ) → x ≡ get_or now i x → n ≡ g x → sum_by g old ≤ most → found + n ≤ most
      passed_fits x n most at is_n few = omega (arith, is.count, sum_by_more_le g old i x h, is_n, ap g (at ∙ next_is x))

      pub passed_more : (later : List X) (x : X) (n : ℕ) → x ≡ get_or now i x → later ≡ set now i (f x) → n ≡ g x → IsPassed old later (i + 1) (found + n)
      passed_more later x n at put is_n = record {
        items = put ∙ map_over_more f old now i x h is.items at;
        count = omega (arith, is.count, sum_by_more g old i x h, is_n, ap g (at ∙ next_is x));
      }

      -- what a call says of the next element
      there : (P : X → Type 0) (d : X) → IfSome (slice_get now i) P → P (get_or now i d)
      there P d holds = rw (slice_get-get_or now i d (omega (arith, passed_long (omega arith)))) at holds

      itself : (d : X) → get_or now i d ≡ get_or now i (get_or now i d)
      itself d = get_or_default now i d (get_or now i d) (omega (arith, passed_long (omega arith)))

      pub fits_if : (d : X) (n most : ℕ) → IfSome (slice_get now i) (λ x. n ≡ g x) → sum_by g old ≤ most → found + n ≤ most
      fits_if d n most is_n few = passed_fits (get_or now i d) n most (itself d) (there (λ x. n ≡ g x) d is_n) few

      pub more_if : (d : X) (later : List X) (n : ℕ) → IfSome (slice_get now i) (λ x. later ≡ set now i (f x)) → IfSome (slice_get now i) (λ x. n ≡ g x) → IsPassed old later (i + 1) (found + n)
      more_if d later n put is_n = passed_more later (get_or now i d) n (itself d) (there (λ x. later ≡ set now i (f x)) d put) (there (λ x. n ≡ g x) d is_n)

    pub passed_all : length old ≤ i → (now ≡ map f old) × (found ≡ sum_by g old)
    passed_all end = (
      is.items ∙ ap (λ l. map f l ++ drop i old) (take_all i old end) ∙ ap (λ l. map f old ++ l) (drop_all i old end) ∙ append-nil (map f old),
      is.count ∙ ap (sum_by g) (take_all i old end),
    )
