-- The places of cells in a list in which none stands twice.
use Rattle.std.proofs.Common.{◌≡◌, ℕ, zero, suc, ◌<◌, ◌≤◌, ◌==◌, List, [], ◌∷◌, length, get_or, refl, ap, arith, eq-eqb}
use Rattle.heap_base.specs.Counting.{bit, times, IsOnce}

stands : (xs : List ℕ) (i x : ℕ) → i < length xs → get_or xs i 0 ≡ x → 1 ≤ times x xs
stands [] i x within is = absurd (omega arith)
stands (y ∷ ys) zero x within is = let one : bit (y == x) ≡ 1 = ap bit (eq-eqb y x is) in omega arith
stands (y ∷ ys) (suc i) x within is = let rest = stands ys i x (omega arith) is in omega arith

-- what stands at two places is the same place
pub once-place : (xs : List ℕ) (i j : ℕ) → IsOnce xs → i < length xs → j < length xs → get_or xs i 0 ≡ get_or xs j 0 → i ≡ j
once-place [] i j once i_in j_in same = absurd (omega arith)
once-place (y ∷ ys) zero zero once i_in j_in same = refl
once-place (y ∷ ys) zero (suc j) once i_in j_in same =
    let rest = stands ys j (get_or ys j 0) (omega arith) refl in
    let here : bit (y == get_or ys j 0) ≡ 1 = ap bit (eq-eqb y (get_or ys j 0) same) in
    let most = once (get_or ys j 0) in
    absurd (omega arith)
once-place (y ∷ ys) (suc i) zero once i_in j_in same =
    let rest = stands ys i (get_or ys i 0) (omega arith) refl in
    let here : bit (y == get_or ys i 0) ≡ 1 = ap bit (eq-eqb y (get_or ys i 0) (cc)) in
    let most = once (get_or ys i 0) in
    absurd (omega arith)
once-place (y ∷ ys) (suc i) (suc j) once i_in j_in same =
    ap suc (once-place ys i j (λ x. let most = once x in omega arith) (omega arith) (omega arith) same)
