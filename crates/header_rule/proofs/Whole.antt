-- The seat that has all the rights knows all that was met.
use Rattle.std.proofs.Common.{◌≡◌, ℕ, ◌+◌, ◌^◌, ◌<◌, ◌≤◌, List, length, get_or, sym, refl, ap, ◌∙◌, subst, arith}
use lib.ListN.{get_elem?}
use lib.Seq.{set-get_or}
use mathlib.Core.Option.{none, some}
use Rattle.atomic_table.specs.Table.{State, Me, step, keeps, Allows, Seen, Final}
use Rattle.atomic_table.proofs.Lists.{set_again}
use Rattle.heap_base.specs.Counting.{bit, is_positive, total, times}
use Rattle.heap_base.proofs.Counting.{le_total, only_one}
use Rattle.header_rule.specs.declared.mark.Mark.{Mark}
use Rattle.header_rule.specs.declared.view.View.{View}
use Rattle.header_rule.specs.Layout.{count_of, has_bit}
use Rattle.header_rule.specs.Views.{times_marked, rights_in, adds_in, wins_in, marks_in, has_mark}
use Rattle.header_rule.specs.Rule.{new_view, KeepsRule}
use Rattle.header_rule.specs.WholeWords.{TellsWords}
use Rattle.header_rule.specs.Steps.{ReadsWord}
use Rattle.header_rule.proofs.Bits.{count_of-word, has_bit-word}
use Rattle.header_rule.proofs.Moves.{AllFit}
use Rattle.header_rule.proofs.WordSteps.{adds_in-lt}

-- what f adds up over all views, the view with all the rights has alone
has_all : (f : View → ℕ) → f (new_view 0) ≡ 0 → (views : List View) → AllFit views → (id : ℕ) (v : View) → get_elem? views id ≡ some v → rights_in views ≡ v.rights → total f views ≡ f v
has_all f nothing views fits id v at all = only_one f (λ (u : View). u.rights) views (λ i u at' none. ap f ((fits i u at').idle none) ∙ nothing) id v at all

pub state_tells : (cells id : ℕ) (v : View) (s : State (Unit {0}) View) → v.rights ≡ 16 → KeepsRule cells s → get_elem? s.views id ≡ some v → TellsWords s.words v
state_tells cells id v s whole k at =
    let some = le_total (λ (u : View). u.rights) s.views id v at in
    let opening = k.opening in
    let sized = k.sized in
    let rights = k.rights in
    let all : rights_in s.views ≡ v.rights = omega arith in
    let adds : (x : ℕ) → adds_in x s.views ≡ times x v.adds = λ x. has_all (λ u. times x u.adds) refl s.views k.fits id v at all in
    let wins : (x : ℕ) → wins_in x s.views ≡ times x v.wins = λ x. has_all (λ u. times x u.wins) refl s.views k.fits id v at all in
    let marks : (m : Mark) (x : ℕ) → marks_in m x s.views ≡ times_marked m x v.marks = λ m x. has_all (λ u. times_marked m x u.marks) refl s.views k.fits id v at all in
    let few : (x : ℕ) → adds_in x s.views < 2 ^ 56 = λ x. (let b = adds_in-lt cells s k x in omega arith) in
    record {
      counts = λ x h. ap count_of (k.words x (omega arith)) ∙ (count_of-word (has_mark s.views x) (adds_in x s.views) (few x) ∙ adds x);
      marks = λ m x h. ap (λ n. has_bit n m) (k.words x (omega arith)) ∙ (has_bit-word (has_mark s.views x) (adds_in x s.views) (few x) m ∙ ap is_positive (marks m x));
      wins = λ x. sym (wins x) ∙ (k.wins x ∙ ap (λ n. bit (is_positive n)) (adds x));
    }

pub tells_all : (cells id : ℕ) (v : View) (ws : List ℕ) (xs : List (Unit {0})) → v.rights ≡ 16 → Final (Seen (KeepsRule cells) id v) ws xs → TellsWords ws v
tells_all cells id v ws xs whole final = subst (λ us. TellsWords us v) final.2 (state_tells cells id v final.0 whole final.1.0 final.1.1)

-- the step: a word is read, and nothing changes
pub reads_word : (cells slots id word : ℕ) (me : Me (Unit {0}) View) → word ≤ cells → Allows (KeepsRule cells) slots id me word (λ n. n) (ReadsWord (step slots word 0 0 none) me)
reads_word cells slots id word me within s k _ at _ =
    let sized = k.sized in
    let here : (x : ℕ) → word ≡ x + 1 → x + 1 < length s.words = λ x e. omega arith in (
      me.0,
      keeps,
      tt,
      subst (λ (z : List ℕ × List View). KeepsRule cells record { words = z.0; homes = s.homes; views = z.1 }) (λ i. (sym (set-get_or s.words word 0) i, sym (set_again s.views id me.0 at) i)) k,
      (
        refl,
        λ whole. (let all = state_tells cells id me.0 s whole k at in record {
          count = λ x e. ap (λ n. count_of (get_or s.words n 0)) e ∙ all.counts x (here x e);
          marks = λ m x e. ap (λ n. has_bit (get_or s.words n 0) m) e ∙ all.marks m x (here x e);
          wins = all.wins;
        }),
      ),
    )
