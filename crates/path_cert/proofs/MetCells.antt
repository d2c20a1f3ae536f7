-- The numbers of rounds that stand in cells.
use Rattle.std.proofs.Common.{◌≡◌, ℕ, ◌+◌, ◌<◌, ◌≤◌, Bool, true, false, ◌||◌, ⊎_elim, List, [], ◌∷◌, length, get_or, set, sym, refl, ap, ◌∙◌, arith, eq-eqb, ◌==◌}
use Rattle.std.specs.Prelude.{count_by, not}
use Rattle.std.specs.List.{All, range_with_len}
use Rattle.std.proofs.lemmas.Bool.{cases_eq, cases_lt, ne_eqb, or_left, or_right}
use Rattle.std.proofs.lemmas.Grind.{get_or-set_at}
use Rattle.std.proofs.lemmas.List.{get_or-set_other, get_or_past}
use Rattle.graph_meaning.specs.Reach.{has_id}
use Rattle.path_cert.proofs.CellsLeft.{count-met}

or_false : (b : Bool) → (b || false) ≡ b
or_false true = refl
or_false false = refl

-- no cell has a number above all of them
pub none-met : (numbers : List ℕ) (round x : ℕ) → All (λ n. n ≤ round) numbers → (get_or numbers x 0 == round + 1) ≡ false
none-met numbers round x past =
    ne_eqb (get_or numbers x 0) (round + 1)
    (λ same.
    ⊎_elim
    (λ (within : x < length numbers). (let below = past x 0 within in omega (arith, below, same)))
    (λ (beyond : length numbers ≤ x). (let none = get_or_past numbers x 0 beyond in omega (arith, none, same)))
    (cases_lt x (length numbers)))

-- a cell that gets the number of the round
pub met-set : (numbers : List ℕ) (round cell x : ℕ) → cell < length numbers → (get_or (set numbers cell round) x 0 == round) ≡ ((get_or numbers x 0 == round) || has_id (cell ∷ []) x)
met-set numbers round cell x within =
    ⊎_elim
    (λ (same : cell ≡ x).
    ap (λ n. n == round) (get_or-set_at numbers cell x round 0 (sym same) within)
    ∙ eq-eqb round round refl
    ∙ sym (or_right _ _ (or_left _ _ (eq-eqb cell x same))))
    (λ other.
    ap (λ n. n == round) (get_or-set_other numbers cell x round 0 (λ same. other (sym same)))
    ∙ sym (ap (λ b. (get_or numbers x 0 == round) || (b || false)) (ne_eqb cell x other) ∙ or_false (get_or numbers x 0 == round)))
    (cases_eq cell x)

-- after which one cell fewer is left
pub fewer-left : (numbers : List ℕ) (round cell cells : ℕ) → cell < length numbers → (get_or numbers cell 0 == round) ≡ false → cell < cells →
    count_by (λ x. not (get_or (set numbers cell round) x 0 == round)) (range_with_len 0 cells) + 1 ≡ count_by (λ x. not (get_or numbers x 0 == round)) (range_with_len 0 cells)
fewer-left numbers round cell cells within new below =
    count-met (λ x. get_or numbers x 0 == round) (λ x. get_or (set numbers cell round) x 0 == round) cell
    (λ x. met-set numbers round cell x within) new cells below
