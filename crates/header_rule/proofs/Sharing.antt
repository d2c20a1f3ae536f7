-- All passes of the same headers have 16 rights together.
use Rattle.std.proofs.Common.{◌≡◌, ℕ, zero, suc, ◌+◌, ◌-◌, ◌<◌, ◌≤◌, List, [], ◌∷◌, ◌++◌, length, get_or, drop, sym, refl, ap, ◌∙◌, subst, arith}
use Rattle.std.specs.Prelude.{Some}
use Rattle.std.specs.List.{All, range_with_len}
use Rattle.std.specs.declared.option.Option.{Option}
use Rattle.std.proofs.lemmas.List.{length-map}
use Rattle.std.proofs.lemmas.List.FromFn.{length-range_with_len}
use Rattle.std.proofs.lemmas.List.Elements.{All-head}
use Rattle.heap_base.specs.Counting.{total}
use Rattle.header_rule.specs.declared.headers.Headers.{Headers}
use Rattle.header_rule.specs.declared.pass.Pass.{Pass}
use Rattle.header_rule.specs.Shares.{share}
use Rattle.header_rule.specs.declared.shared_words.SharedWords.{SharedWords}
use Rattle.header_rule.specs.Passes.{IsPassOf, ArePassesOf, AreAllSeats, numbers, rights_of}
use Rattle.header_rule.specs.Seats.{ReachesWords}

number_here : (p : Pass) (ps : List Pass) (n k : ℕ) → numbers (p ∷ ps) ≡ range_with_len n (suc k) → p.number ≡ n
number_here p ps n k e = ap (λ ns. get_or ns 0 0) e

numbers_after : (p : Pass) (ps : List Pass) (n k : ℕ) → numbers (p ∷ ps) ≡ range_with_len n (suc k) → numbers ps ≡ range_with_len (n + 1) k
numbers_after p ps n k e = ap (drop 1) e

-- passes that come after the first have one right each
later_rights : (n k : ℕ) (ps : List Pass) → numbers ps ≡ range_with_len (n + 1) k → total rights_of ps ≡ k
later_rights n zero [] e = omega arith
later_rights n (suc k) [] e = absurd (let l : 0 ≡ suc (length (range_with_len (n + 1 + 1) k)) = ap length e in omega arith)
later_rights n zero (p ∷ ps) e = absurd (let l : suc (length (numbers ps)) ≡ 0 = ap length e in omega arith)
later_rights n (suc k) (p ∷ ps) e =
    let r = later_rights (n + 1) k ps (numbers_after p ps (n + 1) k e) in
    let at : p.number ≡ suc n = number_here p ps (n + 1) k e ∙ omega arith in
    let one : rights_of p ≡ 1 = p.rights ∙ ap (share p.workers) at in
    omega arith

pub all_rights : (h : Headers) (ps : List Pass) → ArePassesOf h ps → total rights_of ps ≡ 16
all_rights h ps are = go h.workers ps h.some h.few (λ p qs e. (All-head (IsPassOf h) p qs (at_front p qs e)).1) are.1
  where
    at_front : (p : Pass) (qs : List Pass) → ps ≡ p ∷ qs → All (IsPassOf h) (p ∷ qs)
    at_front p qs e = subst (All (IsPassOf h)) e are.0

    go : (w : ℕ) (qs : List Pass) → 0 < w → w ≤ 16 → ((p : Pass) (rs : List Pass) → qs ≡ p ∷ rs → p.workers ≡ w) → numbers qs ≡ range_with_len 0 w → total rights_of qs ≡ 16
    go zero qs some few first e = absurd (omega arith)
    go (suc k) [] some few first e = absurd (let l : 0 ≡ suc (length (range_with_len (0 + 1) k)) = ap length e in omega arith)
    go (suc k) (p ∷ qs) some few first e =
        let r = later_rights 0 k qs (numbers_after p qs 0 k e) in
        let at : p.number ≡ 0 = number_here p qs 0 k e in
        let own : rights_of p ≡ 17 - suc k = p.rights ∙ (λ i. share (first p qs refl i) (at i)) in
        omega arith

-- one number more at the end of a range
pub range-push : (a k n : ℕ) → a + k ≡ n → range_with_len a k ++ n ∷ [] ≡ range_with_len a (suc k)
range-push a zero n e = ap (λ j. j ∷ []) (omega arith)
range-push a (suc k) n e = ap (λ ns. a ∷ ns) (range-push (a + 1) k n (omega arith))

pub length-numbers : (ps : List Pass) (a n : ℕ) → numbers ps ≡ range_with_len a n → length ps ≡ n
length-numbers ps a n e = sym (length-map ps (λ (p : Pass). p.number)) ∙ (ap length e ∙ length-range_with_len a n)

-- All passes of headers that have a table have seats on it, with all the rights.
pub all_seats : (h : Headers) (ps : List Pass) (t : SharedWords) → h.shared ≡ Some t → ArePassesOf h ps → AreAllSeats t ps
all_seats h ps t is are = (λ k d within. subst (λ (s : Option SharedWords). ReachesWords s h.cells (get_or ps k d).reach) is (are.0 k d within).0, all_rights h ps are)

-- the numbers from 0 are 0 and those from 1
pub range-first : (n : ℕ) → 0 < n → 0 ∷ range_with_len 1 (n - 1) ≡ range_with_len 0 n
range-first zero some = absurd (omega arith)
range-first (suc n) some = ap (λ k. 0 ∷ range_with_len 1 k) (omega arith)

-- passes that are still of the headers, with the numbers that they had
pub numbers-same : (ps qs : List Pass) → length qs ≡ length ps → ((i : ℕ) (d : Pass) → i < length ps → (get_or qs i d).number ≡ (get_or ps i d).number) → numbers qs ≡ numbers ps
numbers-same [] [] l e = refl
numbers-same [] (q ∷ qs) l e = absurd (omega arith)
numbers-same (p ∷ ps) [] l e = absurd (omega arith)
numbers-same (p ∷ ps) (q ∷ qs) l e = λ i. e 0 p (omega arith) i ∷ numbers-same ps qs (omega arith) (λ k d low. e (suc k) d (omega arith)) i
