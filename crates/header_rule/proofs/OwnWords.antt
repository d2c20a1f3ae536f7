-- The words of the only pass keep the rule as a table's do.
use Rattle.std.proofs.Common.{◌≡◌, ℕ, ◌+◌, ◌-◌, ◌*◌, ◌^◌, ◌<◌, ◌≤◌, eqb, Bool, List, [], ◌∷◌, length, get_or, get_or-set_same, set, set-set, sym, refl, ap, ◌∙◌}
use Rattle.std.proofs.Common.{subst, arith, length-set, length-append}
use Rattle.std.specs.Prelude.{bit_or}
use Rattle.heap_base.specs.Counting.{IsOnce}
use Rattle.header_rule.specs.declared.mark.Mark.{Mark}
use Rattle.header_rule.specs.declared.mark.Marks.{Marks}
use Rattle.header_rule.specs.declared.view.View.{View}
use Rattle.header_rule.specs.Layout.{bits_of, count_of, is_given}
use Rattle.header_rule.specs.OwnStates.{OwnState, KeepsOwn}
use Rattle.header_rule.specs.Rule.{KeepsRule}
use Rattle.header_rule.specs.Steps.{after_meet, with_add}
use Rattle.header_rule.specs.WholeWords.{TellsWords}
use Rattle.header_rule.proofs.Adding.{add_keeps}
use Rattle.header_rule.proofs.Marking.{marks_keep}
use Rattle.header_rule.proofs.Whole.{state_tells}

pub own_tell : (o : OwnState) → KeepsOwn o → TellsWords o.words o.view
own_tell o kept = state_tells (length o.words - 1) 0 o.view _ kept.1 kept.0 refl

-- the word after a meet: one more, and with the marks that were given
abbrev pub met_word : ℕ → Marks → ℕ
met_word n given = bit_or (n + 1) (bits_of (is_given given))

-- A meet of the cell x.
-- fits: the word has room for one more
-- keeps: the words and the view keep the rule
-- once: no cell was won twice
pub record OwnMeet (o : OwnState) (x : ℕ) (given : Marks) : Type 0 where
  pub fits : get_or o.words (x + 1) 0 + 1 < 2 ^ 64
  pub keeps : KeepsOwn record { words = set o.words (x + 1) (met_word (get_or o.words (x + 1) 0) given); view = after_meet x given (eqb (count_of (get_or o.words (x + 1) 0)) 0) o.view }
  pub once : IsOnce (with_add x (eqb (count_of (get_or o.words (x + 1) 0)) 0) o.view).wins

pub own_meet : (o : OwnState) → KeepsOwn o → (x : ℕ) (given : Marks) → x + 1 < length o.words → length o.view.adds < 2 ^ 55 → OwnMeet o x given
own_meet o kept x given within room =
    let cells : ℕ = length o.words - 1 in
    let n : ℕ = get_or o.words (x + 1) 0 in
    let p : Mark → Bool = is_given given in
    let w : View = with_add x (eqb (count_of n) 0) o.view in
    let all = kept.1 in
    let inside : x < cells = omega arith in
    let few : length o.view.adds < o.view.rights * 2 ^ 51 = omega arith in
    let added = add_keeps cells 0 x o.view inside few _ kept.0 refl in
    let more : length w.adds ≤ w.rights * 2 ^ 51 = omega (arith, length-append o.view.adds (x ∷ [])) in
    let marked = marks_keep cells 0 x w p inside (omega arith) more _ added.1 refl in
    let one : List ℕ = set o.words (x + 1) (n + 1) in
    let word : get_or one (x + 1) 0 ≡ n + 1 = get_or-set_same o.words (x + 1) (n + 1) 0 within in
    let words : set one (x + 1) (bit_or (get_or one (x + 1) 0) (bits_of p)) ≡ set o.words (x + 1) (met_word n given) =
    ap (λ m. set one (x + 1) (bit_or m (bits_of p))) word ∙ set-set o.words (x + 1) (n + 1) (met_word n given) in
    let many : cells ≡ length (set o.words (x + 1) (met_word n given)) - 1 = ap (λ m. m - 1) (sym (length-set o.words (x + 1) (met_word n given))) in
    record {
      fits = added.0;
      keeps = (
        subst (λ (z : ℕ × List ℕ). KeepsRule z.0 record { words = z.1; homes = []; views = after_meet x given (eqb (count_of n) 0) o.view ∷ [] }) (λ i. (many i, words i)) marked,
        all,
      );
      once = added.2;
    }
