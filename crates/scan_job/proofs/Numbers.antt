-- Lists of numbers in which none stands twice.
use Rattle.std.proofs.Common.{◌≡◌, ℕ, zero, suc, ◌+◌, ◌<◌, ◌≤◌, Bool, true, false, cond, ⊎_elim, List, [], ◌∷◌, length, filter, refl, ap, arith, eqb, eq-eqb, IsTrue, ltb}
use Rattle.std.specs.List.{range_with_len}
use Rattle.std.proofs.lemmas.Bool.{or_left, or_right, lt-ltb, le-ltb, cases_lt, cases_eq, ne_eqb}
use Rattle.std.proofs.lemmas.List.FromFn.{length-range_with_len, get_or-range_with_len}
use Rattle.std.proofs.lemmas.List.Folds.{list_any_at}
use Rattle.heap_base.specs.Counting.{bit, total, times, IsOnce}
use Rattle.heap_base.proofs.Counting.{total-same, total-sum, total-zero, times-filter}
use Rattle.graph_meaning.specs.Reach.{has_id}

below-step : (n x : ℕ) → bit (ltb x (suc n)) ≡ bit (ltb x n) + bit (eqb x n)
below-step n x =
    ⊎_elim
    (λ (less : x < n). let ne : x ≡ n → ⊥ = (λ e. absurd (omega arith)) in rw (lt-ltb x n less, lt-ltb x (suc n) (omega arith), ne_eqb x n ne) refl)
    (λ (more : n ≤ x).
    ⊎_elim
    (λ (e : x ≡ n). rw (le-ltb x n more, lt-ltb x (suc n) (omega arith), eq-eqb x n e) refl)
    (λ ne. rw (le-ltb x n more, le-ltb x (suc n) (omega arith), ne_eqb x n ne) refl)
    (cases_eq x n))
    (cases_lt x n)

count-below : (n : ℕ) (xs : List ℕ) → IsOnce xs → total (λ x. bit (ltb x n)) xs ≤ n
count-below zero xs once = (let e = total-same (λ x. bit (ltb x 0)) (λ x. 0) (λ x. ap bit (le-ltb x 0 (omega arith))) xs in let z = total-zero xs in omega arith)
count-below (suc n) xs once =
    let r = count-below n xs once in
    let e = total-same (λ x. bit (ltb x (suc n))) (λ x. bit (ltb x n) + bit (eqb x n)) (below-step n) xs in
    let s = total-sum (λ x. bit (ltb x n)) (λ x. bit (eqb x n)) xs in
    let o = once n in
    omega arith

all-below : (n : ℕ) (xs : List ℕ) → ((x : ℕ) → IsTrue (has_id xs x) → x < n) → total (λ x. bit (ltb x n)) xs ≡ length xs
all-below n [] below = refl
all-below n (x ∷ xs) below =
    let r = all-below n xs (λ y at. below y (or_right _ _ at)) in
    let o : bit (ltb x n) ≡ 1 = ap bit (lt-ltb x n (below x (or_left _ _ (eq-eqb x x refl)))) in
    omega arith

-- There are at most n distinct numbers below n.
pub few-below : (n : ℕ) (xs : List ℕ) → IsOnce xs → ((x : ℕ) → IsTrue (has_id xs x) → x < n) → length xs ≤ n
few-below n xs once below = let a = all-below n xs below in let c = count-below n xs once in omega arith

-- ---- the numbers of a range

none-below : (a n x : ℕ) → x < a → times x (range_with_len a n) ≡ 0
none-below a zero x less = refl
none-below a (suc n) x less =
    let ne : a ≡ x → ⊥ = (λ e. absurd (omega arith)) in
    let z : bit (eqb a x) ≡ 0 = ap bit (ne_eqb a x ne) in
    let r = none-below (a + 1) n x (omega arith) in
    omega arith

pub once-range : (a n : ℕ) → IsOnce (range_with_len a n)
once-range a zero x = omega arith
once-range a (suc n) x =
    ⊎_elim
    (λ (e : a ≡ x). let o : bit (eqb a x) ≡ 1 = ap bit (eq-eqb a x e) in let z = none-below (a + 1) n x (omega arith) in omega arith)
    (λ ne. let z : bit (eqb a x) ≡ 0 = ap bit (ne_eqb a x ne) in let r = once-range (a + 1) n x in omega arith)
    (cases_eq a x)

pub once-filter : (p : ℕ → Bool) (xs : List ℕ) → IsOnce xs → IsOnce (filter p xs)
once-filter p xs once x = let e = times-filter p x xs in let l = go (p x) in omega arith
  where
    go : (b : Bool) → cond b (times x xs) 0 ≤ 1
    go true = once x
    go false = omega arith

pub in-range : (n x : ℕ) → x < n → has_id (range_with_len 0 n) x ≡ true
in-range n x less =
    list_any_at (λ z. eqb z x) (range_with_len 0 n) x 0 (let l = length-range_with_len 0 n in omega arith)
    (eq-eqb _ x (let e = get_or-range_with_len 0 n x 0 less in omega arith))
