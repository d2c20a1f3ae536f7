-- An add keeps the rule.
use Rattle.std.proofs.Common.{◌≡◌, ◌≢◌, ℕ, zero, suc, ◌+◌, ◌*◌, ◌%◌, ◌^◌, ◌<◌, eqb, Bool, true, false, cond, List, [], ◌∷◌, ◌++◌, length, get_or}
use Rattle.std.proofs.Common.{set, sym, refl, ap, ◌∙◌, subst, arith, length-append, ne_eqb}
use mathlib.Core.Logic.{dite}
use native.Mathlib.Decide.{ℕ_discrete}
use mathlib.Core.Option.{none, some}
use lib.ListN.{get_elem?}
use Rattle.atomic_table.specs.Table.{State, step, keeps, Allows}
use Rattle.heap_base.specs.Counting.{bit, is_positive, times, IsOnce}
use Rattle.heap_base.proofs.Counting.{is_positive-from, bit-le, total-set, le_total, total-set_same, times-append}
use Rattle.header_rule.specs.declared.mark.Mark.{Mark}
use Rattle.header_rule.specs.declared.view.View.{View}
use Rattle.header_rule.specs.Layout.{count_of, bits_of}
use Rattle.header_rule.specs.Views.{times_marked, adds_in, wins_in, marks_in, has_mark}
use Rattle.header_rule.specs.Rule.{FitsRights, KeepsRule}
use Rattle.header_rule.specs.Steps.{AddsCell, with_add}
use Rattle.header_rule.proofs.Bits.{bits_of-le, count_of-word, cond_zero}
use Rattle.header_rule.proofs.WordSteps.{bit-here, bit-away, adds_in-lt, word_of-same, keeps_rule}

-- who finds 0 wins the cell, and nobody else does
won_once : (n : ℕ) → bit (is_positive n) + cond (eqb n 0) 1 0 ≡ 1
won_once zero = refl
won_once (suc n) = let not : suc n ≢ 0 = omega arith in rw (ne_eqb (suc n) 0 not) refl

times_won : (y x : ℕ) (won : Bool) (ws : List ℕ) → times y (cond won (ws ++ x ∷ []) ws) ≡ times y ws + cond won (bit (eqb x y)) 0
times_won y x true ws = let a = times-append y ws (x ∷ []) in omega arith
times_won y x false ws = omega arith

-- the wins of the cell that was met, by its adds before and after
wins_here : (adds wins adds' wins' : ℕ) → wins ≡ bit (is_positive adds) → adds' ≡ adds + 1 → wins' ≡ wins + cond (eqb adds 0) 1 0 → wins' ≡ bit (is_positive adds')
wins_here adds wins adds' wins' e a w = w ∙ (ap (λ k. k + cond (eqb adds 0) 1 0) e ∙ (won_once adds ∙ sym (ap bit (is_positive-from adds' (omega arith)))))

-- the view v at the place id becomes one in which x was added, and won where it had no adds
module _ (views : List View) (id x : ℕ) (v : View) (at : get_elem? views id ≡ some v) (won : Bool) where
  abbrev after : List View
  after = set views id (with_add x won v)

  marks-same : (m : Mark) (y : ℕ) → marks_in m y after ≡ marks_in m y views
  marks-same m y = total-set_same (λ (u : View). times_marked m y u.marks) views id v (with_add x won v) at refl

  adds-more : (y : ℕ) → adds_in y after ≡ adds_in y views + bit (eqb x y)
  adds-more y = let a = total-set (λ (u : View). times y u.adds) views id v (with_add x won v) at in let b = times-append y v.adds (x ∷ []) in omega arith

  adds-here : adds_in x after ≡ adds_in x views + 1
  adds-here = adds-more x ∙ ap (λ k. adds_in x views + k) (bit-here x)

  adds-away : (y : ℕ) → y ≢ x → adds_in y after ≡ adds_in y views
  adds-away y ne = let a = adds-more y in let b = bit-away x y ne in omega arith

  wins-more : (y : ℕ) → wins_in y after ≡ wins_in y views + cond won (bit (eqb x y)) 0
  wins-more y = let a = total-set (λ (u : View). times y u.wins) views id v (with_add x won v) at in let b = times_won y x won v.wins in omega arith

  wins-here : wins_in x after ≡ wins_in x views + cond won 1 0
  wins-here = wins-more x ∙ ap (λ k. wins_in x views + cond won k 0) (bit-here x)

  wins-away : (y : ℕ) → y ≢ x → wins_in y after ≡ wins_in y views
  wins-away y ne = wins-more y ∙ (ap (λ k. wins_in y views + cond won k 0) (bit-away x y ne) ∙ (let z = cond_zero won in omega arith))

  wins-after : won ≡ eqb (adds_in x views) 0 → ((y : ℕ) → wins_in y views ≡ bit (is_positive (adds_in y views))) → (y : ℕ) → wins_in y after ≡ bit (is_positive (adds_in y after))
  wins-after e wins y = dite (ℕ_discrete y x)
      (λ is. subst (λ z. wins_in z after ≡ bit (is_positive (adds_in z after))) (sym is)
      (wins_here (adds_in x views) (wins_in x views) (adds_in x after) (wins_in x after) (wins x) adds-here (wins-here ∙ ap (λ b. wins_in x views + cond b 1 0) e)))
      (λ ne. wins-away y ne ∙ (wins y ∙ ap (λ k. bit (is_positive k)) (sym (adds-away y ne))))

  -- a seat's own wins are among all wins
  wins-once : ((y : ℕ) → wins_in y after ≡ bit (is_positive (adds_in y after))) → IsOnce (with_add x won v).wins
  wins-once wins y =
      let l = le_total (λ (u : View). times y u.wins) views id v at in
      let a = total-set (λ (u : View). times y u.wins) views id v (with_add x won v) at in
      let e = wins y in
      let b = bit-le (is_positive (adds_in y after)) in
      omega arith

-- The word of the cell x becomes one more, and the view of the seat has one meet more.
pub add_keeps : (cells id x : ℕ) (v : View) → x < cells → length v.adds < v.rights * 2 ^ 51 → (s : State (Unit {0}) View) → KeepsRule cells s → get_elem? s.views id ≡ some v
    → let n : ℕ = get_or s.words (x + 1) 0 in
    let w : View = with_add x (eqb (count_of n) 0) v in
    (n + 1 < 2 ^ 64) × KeepsRule cells record { words = set s.words (x + 1) (n + 1); homes = s.homes; views = set s.views id w } × IsOnce w.wins
add_keeps cells id x v within room s k at =
    let n : ℕ = get_or s.words (x + 1) 0 in
    let a : ℕ = adds_in x s.views in
    let p : Mark → Bool = has_mark s.views x in
    let is : n ≡ bits_of p + a = k.words x within in
    let high = bits_of-le p in
    let small : a < 2 ^ 55 + 1 = adds_in-lt cells s k x in
    let count : count_of n ≡ a = ap count_of is ∙ count_of-word p a (omega arith) in
    let won : Bool = eqb (count_of n) 0 in
    let w : View = with_add x won v in
    let more : n + 1 ≡ bits_of p + (a + 1) = omega arith in
    let w-fits : FitsRights w = record { idle = λ e. absurd (omega arith); bounded = omega (arith, length-append v.adds (x ∷ [])) } in
    let wins = wins-after s.views id x v at won (ap (λ c. eqb c 0) count) k.wins in (
      omega arith,
      keeps_rule cells s k id v w at refl w-fits x (n + 1) within
          (more ∙ sym (word_of-same (set s.views id w) x (a + 1) p (λ m. ap is_positive (marks-same s.views id x v at won m x)) (adds-here s.views id x v at won)))
          (λ y ne. word_of-same (set s.views id w) y (adds_in y s.views) (has_mark s.views y) (λ m. ap is_positive (marks-same s.views id x v at won m y)) (adds-away s.views id x v at won y ne))
          wins,
      wins-once s.views id x v at won wins,
    )

-- the step: the word of the cell x, and the view of the seat
pub adds_cell : (cells slots id x : ℕ) (v : View) → x < cells → length v.adds < v.rights * 2 ^ 51 →
    Allows (KeepsRule cells) slots id (v, []) (x + 1) (λ n. (n + 1) % 2 ^ 64) (AddsCell (step slots (x + 1) 1 0 none) (v, []))
adds_cell cells slots id x v within room s k _ at _ =
    let n : ℕ = get_or s.words (x + 1) 0 in
    let w : View = with_add x (eqb (count_of n) 0) v in
    let added = add_keeps cells id x v within room s k at in
    let fits = added.0 in
    let word : n + 1 ≡ (n + 1) % 2 ^ 64 = omega arith in (
      w,
      keeps,
      tt,
      subst (λ m. KeepsRule cells record { words = set s.words (x + 1) m; homes = s.homes; views = set s.views id w }) word added.1,
      (ap (λ y. (with_add y (eqb (count_of n) 0) v, [])) (omega arith), added.2),
    )
