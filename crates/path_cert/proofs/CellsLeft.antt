-- How far the search of an owner has come.
use Rattle.std.proofs.Common.{◌≡◌, ℕ, zero, suc, ◌+◌, ◌<◌, ◌≤◌, Bool, true, false, ◌||◌, not, cond, ⊎_elim, [], ◌∷◌, sym, refl, ap, ◌∙◌, arith, eqb-true, eq-eqb, ◌==◌}
use Rattle.std.specs.Prelude.{count_by}
use Rattle.std.specs.List.{range_with_len}
use Rattle.std.proofs.Math.Bool.{or-false}
use Rattle.std.proofs.lemmas.Bool.{cases_eq, or_left, or_right, false_from_ne_true}
use Rattle.std.proofs.lemmas.List.Sums.{sum_by-cons}
use Rattle.graph_meaning.specs.Reach.{has_id}

-- ---- how many cells are left

abbrev bit_of : Bool → ℕ
bit_of b = cond b 1 0

module _ (met later : ℕ → Bool) (cell : ℕ) (same : (x : ℕ) → later x ≡ (met x || has_id (cell ∷ []) x)) (new : met cell ≡ false) where
  other : (x : ℕ) → (cell ≡ x → ⊥) → later x ≡ met x
  other x apart =
      same x
      ∙ ap (λ b. met x || (b || false)) (false_from_ne_true (cell == x) (λ e. apart (eqb-true cell x e)))
      ∙ or-false (met x)

  here : later cell ≡ true
  here = same cell ∙ or_right _ _ (or_left _ _ (eq-eqb cell cell refl))

  count_after : (a n : ℕ) → cell < a → count_by (λ x. not (later x)) (range_with_len a n) ≡ count_by (λ x. not (met x)) (range_with_len a n)
  count_after a zero less = refl
  count_after a (suc n) less =
      let rest = count_after (a + 1) n (omega arith) in
      let first : later a ≡ met a = other a (λ e. omega arith) in
      sum_by-cons (λ x. bit_of (not (later x))) a (range_with_len (a + 1) n)
      ∙ (λ i. bit_of (not (first i)) + rest i)
      ∙ sym (sum_by-cons (λ x. bit_of (not (met x))) a (range_with_len (a + 1) n))

  count_met : (a n : ℕ) → a ≤ cell → cell < a + n → count_by (λ x. not (later x)) (range_with_len a n) + 1 ≡ count_by (λ x. not (met x)) (range_with_len a n)
  count_met a zero from below = absurd (omega arith)
  count_met a (suc n) from below =
      let now = sum_by-cons (λ x. bit_of (not (later x))) a (range_with_len (a + 1) n) in
      let was = sum_by-cons (λ x. bit_of (not (met x))) a (range_with_len (a + 1) n) in
      ⊎_elim
      (λ is.
      let first : bit_of (not (later a)) ≡ 0 = ap (λ b. bit_of (not b)) (ap later is ∙ here) in
      let before : bit_of (not (met a)) ≡ 1 = ap (λ b. bit_of (not b)) (ap met is ∙ new) in
      let rest = count_after (a + 1) n (omega arith) in
      omega (arith, now, was, first, before, rest))
      (λ apart.
      let first : bit_of (not (later a)) ≡ bit_of (not (met a)) = ap (λ b. bit_of (not b)) (other a (λ e. apart (sym e))) in
      let rest = count_met (a + 1) n (omega arith) (omega arith) in
      omega (arith, now, was, first, rest))
      (cases_eq a cell)

  -- one cell fewer is left
  pub count-met : (cells : ℕ) → cell < cells → count_by (λ x. not (later x)) (range_with_len 0 cells) + 1 ≡ count_by (λ x. not (met x)) (range_with_len 0 cells)
  count-met cells below = count_met 0 cells (omega arith) (omega arith)
