-- What both steps on a header word share: the word of one cell changes, and with it the view of one seat.
use Rattle.std.proofs.Common.{◌≡◌, ◌≢◌, ℕ, suc, ◌+◌, ◌*◌, ◌^◌, ◌<◌, ◌≤◌, eqb, Bool, List, [], ◌∷◌, get_or, set, sym, refl, ap, ◌∙◌, subst, arith}
use Rattle.std.proofs.Common.{length-set, get_or-set_same, get_or-set_other, eq-eqb, ne_eqb}
use mathlib.Core.Logic.{dite}
use native.Mathlib.Decide.{ℕ_discrete}
use mathlib.Core.Option.{some}
use lib.ListN.{get_elem?}
use Rattle.atomic_table.specs.Table.{State}
use Rattle.heap_base.specs.Counting.{bit, is_positive}
use Rattle.heap_base.proofs.Counting.{total-set_same, times-le}
use Rattle.header_rule.specs.declared.mark.Mark.{Mark}
use Rattle.header_rule.specs.declared.view.View.{View}
use Rattle.header_rule.specs.Layout.{bits_of}
use Rattle.header_rule.specs.Views.{rights_in, adds_in, wins_in, has_mark, word_of}
use Rattle.header_rule.specs.Rule.{FitsRights, KeepsRule}
use Rattle.header_rule.proofs.Moves.{AllFit, fits_set}

pub bit-here : (x : ℕ) → bit (eqb x x) ≡ 1
bit-here x = ap bit (eq-eqb x x refl)

pub bit-away : (x y : ℕ) → y ≢ x → bit (eqb x y) ≡ 0
bit-away x y ne = ap bit (ne_eqb x y (λ e. ne (sym e)))

-- each word counts at most 2 ^ 51 adds for each right
pub adds_in-le : (x : ℕ) (views : List View) → AllFit views → adds_in x views ≤ rights_in views * 2 ^ 51
adds_in-le x [] fits = omega arith
adds_in-le x (v ∷ views) fits =
    let r = adds_in-le x views (λ i u at. fits (suc i) u at) in
    let b = (fits 0 v refl).bounded in
    let t = times-le x v.adds in
    omega arith

-- and there are 16 rights
pub adds_in-lt : (cells : ℕ) (s : State (Unit {0}) View) → KeepsRule cells s → (x : ℕ) → adds_in x s.views < 2 ^ 55 + 1
adds_in-lt cells s k x = let b = adds_in-le x s.views k.fits in let r = k.rights in let o = k.opening in omega arith

pub word_of-same : (views : List View) (x n : ℕ) (p : Mark → Bool) → ((m : Mark) → has_mark views x m ≡ p m) → adds_in x views ≡ n → word_of x views ≡ bits_of p + n
word_of-same views x n p e f = λ i. bits_of (λ m. e m i) + f i

pub keeps_rule : (cells : ℕ) (s : State (Unit {0}) View) → KeepsRule cells s → (id : ℕ) (v w : View) → get_elem? s.views id ≡ some v → w.rights ≡ v.rights → FitsRights w
    → (x word' : ℕ) → x < cells → word' ≡ word_of x (set s.views id w)
    → ((y : ℕ) → y ≢ x → word_of y (set s.views id w) ≡ word_of y s.views)
    → ((y : ℕ) → wins_in y (set s.views id w) ≡ bit (is_positive (adds_in y (set s.views id w))))
    → KeepsRule cells record { words = set s.words (x + 1) word'; homes = s.homes; views = set s.views id w }
keeps_rule cells s k id v w at same_rights w-fits x word' within here away wins =
    let views' : List View = set s.views id w in
    let sized = k.sized in
    let first : get_or (set s.words (x + 1) word') 0 0 ≡ get_or s.words 0 0 = (let ne : 0 ≢ x + 1 = omega arith in get_or-set_other s.words (x + 1) 0 word' 0 ne) in
    record {
      sized = length-set s.words (x + 1) word' ∙ sized;
      opening = rw first k.opening;
      rights = total-set_same (λ (u : View). u.rights) s.views id v w at same_rights ∙ (k.rights ∙ ap (λ n. 16 * n) (sym first));
      fits = fits_set s.views id w k.fits w-fits;
      words = λ y h. dite (ℕ_discrete y x)
          (λ e. subst (λ z. get_or (set s.words (x + 1) word') (z + 1) 0 ≡ word_of z views') (sym e)
          (get_or-set_same s.words (x + 1) word' 0 (omega arith) ∙ here))
          (λ ne. let apart : y + 1 ≢ x + 1 = (λ e. ne (omega arith)) in
          get_or-set_other s.words (x + 1) (y + 1) word' 0 apart ∙ (k.words y h ∙ sym (away y ne)));
      wins = wins;
    }
