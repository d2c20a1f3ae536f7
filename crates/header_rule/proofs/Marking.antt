-- Setting marks keeps the rule.
use Rattle.std.proofs.Common.{◌≡◌, ◌≢◌, ℕ, zero, suc, ◌+◌, ◌*◌, ◌^◌, ◌<◌, ◌≤◌, ◌||◌, eqb, Bool, true, false, cond, List, [], length, get_or, set, sym, refl, ap, ◌∙◌, subst, arith}
use Rattle.std.specs.Prelude.{bit_or}
use mathlib.Core.Option.{none, some}
use lib.ListN.{get_elem?}
use Rattle.atomic_table.specs.Table.{State, step, keeps, Allows}
use Rattle.heap_base.specs.Counting.{bit, is_positive, times}
use Rattle.heap_base.proofs.Counting.{is_positive-from, total-set, total-set_same}
use Rattle.header_rule.specs.declared.mark.Mark.{Mark}
use Rattle.header_rule.specs.declared.view.View.{View}
use Rattle.header_rule.specs.Layout.{bits_of, has_bit, marks_passing}
use Rattle.header_rule.specs.Views.{times_marked, adds_in, wins_in, marks_in, has_mark}
use Rattle.header_rule.specs.Rule.{FitsRights, KeepsRule}
use Rattle.header_rule.specs.Steps.{SetsMarks, with_marks}
use Rattle.header_rule.proofs.Bits.{or-bits_of, cond_zero, times_marked-passing}
use Rattle.header_rule.proofs.Moves.{times_marked-append}
use Rattle.header_rule.proofs.WordSteps.{bit-here, bit-away, adds_in-lt, word_of-same, keeps_rule}

is_positive-plus : (n : ℕ) (b : Bool) → is_positive (n + cond b 1 0) ≡ (is_positive n || b)
is_positive-plus zero true = refl
is_positive-plus zero false = refl
is_positive-plus (suc n) b = is_positive-from (suc n + cond b 1 0) (omega arith)

-- the view v at the place id becomes one in which the marks of x that pass the test p were set
module _ (views : List View) (id x : ℕ) (v : View) (at : get_elem? views id ≡ some v) (p : Mark → Bool) where
  abbrev after : List View
  after = set views id (with_marks (marks_passing p x) v)

  adds-same : (y : ℕ) → adds_in y after ≡ adds_in y views
  adds-same y = total-set_same (λ (u : View). times y u.adds) views id v (with_marks (marks_passing p x) v) at refl

  wins-same : (y : ℕ) → wins_in y after ≡ wins_in y views
  wins-same y = total-set_same (λ (u : View). times y u.wins) views id v (with_marks (marks_passing p x) v) at refl

  marks-more : (m : Mark) (y : ℕ) → marks_in m y after ≡ marks_in m y views + cond (p m) (bit (eqb x y)) 0
  marks-more m y =
      let t = total-set (λ (u : View). times_marked m y u.marks) views id v (with_marks (marks_passing p x) v) at in
      let a = times_marked-append m y v.marks (marks_passing p x) in
      let b = times_marked-passing p x m y in
      omega arith

  has_mark-here : (m : Mark) → has_mark after x m ≡ (has_mark views x m || p m)
  has_mark-here m = ap is_positive (marks-more m x ∙ ap (λ k. marks_in m x views + cond (p m) k 0) (bit-here x)) ∙ is_positive-plus (marks_in m x views) (p m)

  has_mark-away : (y : ℕ) → y ≢ x → (m : Mark) → has_mark after y m ≡ has_mark views y m
  has_mark-away y ne m = ap is_positive (marks-more m y ∙ (ap (λ k. marks_in m y views + cond (p m) k 0) (bit-away x y ne) ∙ (let z = cond_zero (p m) in omega arith)))

-- The marks of x that pass the test p are set in its word, and stand in the view of the seat.
pub marks_keep : (cells id x : ℕ) (v : View) (p : Mark → Bool) → x < cells → 0 < v.rights → length v.adds ≤ v.rights * 2 ^ 51
    → (s : State (Unit {0}) View) → KeepsRule cells s → get_elem? s.views id ≡ some v
    → KeepsRule cells record { words = set s.words (x + 1) (bit_or (get_or s.words (x + 1) 0) (bits_of p)); homes = s.homes; views = set s.views id (with_marks (marks_passing p x) v) }
marks_keep cells id x v p within some_right bounded s kept at =
    let n : ℕ = get_or s.words (x + 1) 0 in
    let a : ℕ = adds_in x s.views in
    let small = adds_in-lt cells s kept x in
    let w : View = with_marks (marks_passing p x) v in
    let marked : bit_or n (bits_of p) ≡ bits_of (λ m. has_mark s.views x m || p m) + a = ap (λ k. bit_or k (bits_of p)) (kept.words x within) ∙ or-bits_of (has_mark s.views x) p a (omega arith) in
    let w-fits : FitsRights w = record { idle = λ e. absurd (omega arith); bounded = bounded } in
    keeps_rule cells s kept id v w at refl w-fits x (bit_or n (bits_of p)) within
    (marked ∙ sym (word_of-same (set s.views id w) x a (λ m. has_mark s.views x m || p m) (has_mark-here s.views id x v at p) (adds-same s.views id x v at p x)))
    (λ y ne. word_of-same (set s.views id w) y (adds_in y s.views) (has_mark s.views y) (has_mark-away s.views id x v at p y ne) (adds-same s.views id x v at p y))
    (λ y. wins-same s.views id x v at p y ∙ (kept.wins y ∙ ap (λ c. bit (is_positive c)) (sym (adds-same s.views id x v at p y))))

-- the step, where the number k is made of marks alone
pub sets_marks : (cells slots id x k : ℕ) (v : View) → x < cells → k ≡ bits_of (has_bit k) → 0 < v.rights → length v.adds ≤ v.rights * 2 ^ 51
    → Allows (KeepsRule cells) slots id (v, []) (x + 1) (λ n. bit_or n k) (SetsMarks (step slots (x + 1) k 0 none) (v, []))
sets_marks cells slots id x k v within k-is some_right bounded s kept _ at _ =
    let n : ℕ = get_or s.words (x + 1) 0 in
    let w : View = with_marks (marks_passing (has_bit k) x) v in (
      w,
      keeps,
      tt,
      subst (λ j. KeepsRule cells record { words = set s.words (x + 1) (bit_or n j); homes = s.homes; views = set s.views id w })
          (sym k-is) (marks_keep cells id x v (has_bit k) within some_right bounded s kept at),
      ap (λ y. (with_marks (marks_passing (has_bit k) y) v, [])) (omega arith),
    )
