-- What an equation on a seat gives.
use Rattle.std.proofs.Common.{◌≡◌, ℕ, Option, Some, None, cond, eqb, List, [], ◌∷◌, sym, ap, ◌∙◌}
use Rattle.atomic_table.specs.Table.{rest}
use Rattle.parked_crew.specs.Errands.{Errand}
use Rattle.parked_crew.specs.declared.rule.View.{View}
use Rattle.parked_crew.specs.declared.rule.Role.{Role}
use Rattle.parked_crew.specs.Rounds.{seen, Sat}

abbrev Slots : Type 0 → Type 0
Slots C = List (ℕ × Option (Errand C))

module _ {C : Type 0} where
  pub has_seen : (me : Sat C) (role : Role) (m : C) (xs : Slots C) → me ≡ (seen role m, xs) → me ≡ (seen role me.0.start, xs)
  has_seen me role m xs is = is ∙ ap (λ (z : C). (seen role z, xs)) (sym (ap (λ (y : Sat C). y.0.start) is))

  pub view_seen : (me : Sat C) (role : Role) (m : C) (xs : Slots C) → me ≡ (seen role m, xs) → me.0 ≡ seen role me.0.start
  view_seen me role m xs is = ap (λ (y : Sat C). y.0) (has_seen me role m xs is)

  pub has_first : (me : Sat C) (v : View C) (x : ℕ × Option (Errand C)) (xs : Slots C) → me ≡ (v, x ∷ xs) → me.1 ≡ x ∷ rest me.1
  has_first me v x xs is = ap (λ (y : Sat C). y.1) is ∙ ap (λ (z : Slots C). x ∷ rest z) (sym (ap (λ (y : Sat C). y.1) is))

  -- after an exchange
  pub put_in : (me me' : Sat C) (v : View C) (x y : ℕ × Option (Errand C)) (xs : Slots C) → me ≡ (v, y ∷ xs) → me' ≡ (me.0, x ∷ rest me.1) → me' ≡ (v, x ∷ xs)
  put_in me me' v x y xs is now = now ∙ ap (λ (z : Sat C). (z.0, x ∷ rest z.1)) is

  errand_or : Errand C → Option (Errand C) → Errand C
  errand_or d (Some e) = e
  errand_or d None = d

  first_of : Option (Errand C) → Slots C → Option (Errand C)
  first_of d [] = d
  first_of d (x ∷ xs) = x.1

  -- what comes out of the slot is what lay there
  pub some_came : (me : Sat C) (v : View C) (e : Errand C) (xs ys : Slots C) (r : Option (Errand C)) → me ≡ (v, (0, Some e) ∷ xs) → me.1 ≡ (0, r) ∷ ys → r ≡ Some e
  unfolding first_of
  some_came me v e xs ys r is now = sym (ap (first_of None) now) ∙ ap (λ (y : Sat C). first_of None y.1) is

  pub came_out : (me : Sat C) (v : View C) (e u : Errand C) (xs ys : Slots C) (r : Option (Errand C)) → me ≡ (v, (0, Some e) ∷ xs) → me.1 ≡ (0, r) ∷ ys → r ≡ Some u → u ≡ e
  unfolding errand_or
  came_out me v e u xs ys r is now out = ap (errand_or e) (sym out ∙ some_came me v e xs ys r is now)

  -- an errand that began as one did that began as the seat says
  pub same_start : (m : C) (d e u : Errand C) → e.start ≡ m → u ≡ e → d.start ≡ u.start → d.start ≡ m
  same_start m d e u has same a = a ∙ (ap (λ (z : Errand C). z.start) same ∙ has)

  -- a seat that had no slot out before has the one alone
  pub alone : (me old : Sat C) (v w : View C) (x : ℕ × Option (Errand C)) → me ≡ (v, x ∷ old.1) → old ≡ (w, []) → me ≡ (v, x ∷ [])
  alone me old v w x is bare = is ∙ ap (λ (z : Sat C). (v, x ∷ z.1)) bare

pub if_zero : {A : Type 0} (k : ℕ) (a b : A) → k ≡ 0 → cond (eqb k 0) a b ≡ a
if_zero k a b e = ap (λ (j : ℕ). cond (eqb j 0) a b) e
