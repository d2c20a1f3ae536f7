-- Fronts of a list of bytes that have no newline.
use Rattle.std.proofs.Common.{◌≡◌, ◌≢◌, ℕ, ◌+◌, ◌-◌, ◌<◌, ◌≤◌, min, List, length, take, drop, get_or, sym, ◌∙◌, arith, subst, inl, inr}
use Rattle.std.proofs.lemmas.List.{take_all, get_or-take, get_or-drop, length-take-le, length-drop}
use Rattle.std.proofs.lemmas.List.Elements.{All-take, All-append, All-more}
use Rattle.std.proofs.lemmas.Bool.Decides.{leb_tells}
use Rattle.std.proofs.Math.Seq.{take-take, take-add}
use Rattle.heap_base.specs.declared.limits.TheConstants.{LONGEST_LINE}
use Rattle.trace_reader.specs.Cuts.{HasNoNewline, IsFirstNewline, HasTooLongLine, EndsPastLimit, IsLineFront}

pub front_of_front : (xs : List ℕ) (m n : ℕ) → m ≤ n → HasNoNewline (take n xs) → HasNoNewline (take m xs)
front_of_front xs m n h p = subst HasNoNewline (take-take m n xs h) (All-take (λ b. b ≢ 10) m (take n xs) p)

pub front_is_all : (xs : List ℕ) (n : ℕ) → length xs ≤ n → HasNoNewline (take n xs) → HasNoNewline xs
front_is_all xs n h p = subst HasNoNewline (take_all n xs h) p

pub front_and_part : (xs : List ℕ) (m n : ℕ) → HasNoNewline (take m xs) → HasNoNewline (take n (drop m xs)) → HasNoNewline (take (m + n) xs)
front_and_part xs m n p q =
    subst HasNoNewline (sym (take-add m n xs)) (All-append (λ b. b ≢ 10) (take m xs) (take n (drop m xs)) p q)

-- none stands among the first `reach` bytes, where none stands in the searched ones and in the part behind them
pub front_searched : (xs : List ℕ) (searched end reach : ℕ) → searched ≤ end → min reach (length xs) ≤ end → HasNoNewline (take searched xs) → HasNoNewline (take (end - searched) (drop searched xs))
    → HasNoNewline (take reach xs)
front_searched xs searched end reach h k p q =
    let all : HasNoNewline (take end xs) = subst (λ n. HasNoNewline (take n xs)) (omega arith) (front_and_part xs searched (end - searched) p q) in
    elim (leb_tells reach (length xs)) as (λ _. HasNoNewline (take reach xs)) [
      | inl short ↦ let s : reach ≤ length xs = short.1 in front_of_front xs reach end (omega arith) all
      | inr long ↦ let l : length xs < reach = long.1 in subst HasNoNewline (sym (take_all reach xs (omega arith))) (front_is_all xs end (omega arith) all)
    ]

-- the first newline of a part is the first of all, where none stands before the part
pub first_in_part : (xs : List ℕ) (m k n : ℕ) → HasNoNewline (take m xs) → IsFirstNewline (take k (drop m xs)) n → m + k ≤ length xs → IsFirstNewline xs (m + n)
first_in_part xs m k n p first fits =
    let size : length (take k (drop m xs)) ≡ k = length-take-le k (drop m xs) (omega (arith, length-drop m xs)) in
    let within : n < k = omega (arith, first.there) in
    record {
      there = omega arith;
      one_line = front_and_part xs m n p (subst HasNoNewline (take-take n k (drop m xs) (omega arith)) first.one_line);
      newline = sym (get_or-drop m xs n 0) ∙ sym (get_or-take k (drop m xs) n 0 within) ∙ first.newline;
    }

-- more bytes than a line may have are there, and none of the first is a newline
pub too_long_below : (xs : List ℕ) (allowed : ℕ) → LONGEST_LINE < length xs → LONGEST_LINE < allowed → HasNoNewline (take (min allowed (LONGEST_LINE + 1)) xs) → HasTooLongLine xs allowed
too_long_below xs allowed h k p = record {
  there = omega arith;
  one_line = front_of_front xs (LONGEST_LINE + 1) (min allowed (LONGEST_LINE + 1)) (omega arith) p;
  within = omega arith;
}

pub too_long_at : (xs : List ℕ) (allowed : ℕ) → LONGEST_LINE < length xs → allowed ≡ LONGEST_LINE →
    HasNoNewline (take (min allowed (LONGEST_LINE + 1)) xs) → get_or xs LONGEST_LINE 0 ≢ 10 → HasTooLongLine xs allowed
too_long_at xs allowed h k p q = record {
  there = omega arith;
  one_line = All-more (λ b. b ≢ 10) xs LONGEST_LINE 0 h (front_of_front xs LONGEST_LINE (min allowed (LONGEST_LINE + 1)) (omega arith) p) q;
  within = omega arith;
}

-- the byte behind the longest line is no newline, where a line is too long
pub too_long_next : (xs : List ℕ) (allowed : ℕ) → HasTooLongLine xs allowed → get_or xs LONGEST_LINE 0 ≢ 10
too_long_next xs allowed long e =
    long.one_line LONGEST_LINE 0 (omega (arith, length-take-le (LONGEST_LINE + 1) xs long.there)) (get_or-take (LONGEST_LINE + 1) xs LONGEST_LINE 0 (omega arith) ∙ e)

pub ends_past_limit : (xs : List ℕ) (allowed : ℕ) → allowed < length xs → (HasTooLongLine xs allowed → ⊥) → HasNoNewline (take (min allowed (LONGEST_LINE + 1)) xs) → EndsPastLimit xs allowed
ends_past_limit xs allowed h not_long p =
    let at_most : allowed ≤ LONGEST_LINE =
    elim (leb_tells allowed LONGEST_LINE) as (λ _. allowed ≤ LONGEST_LINE) [
      | inl low ↦ low.1
      | inr high ↦ absurd (not_long (too_long_below xs allowed (let l : LONGEST_LINE < allowed = high.1 in omega arith) high.1 p))
    ] in
    record {
      there = h;
      one_line = front_of_front xs allowed (min allowed (LONGEST_LINE + 1)) (omega arith) p;
      not_too_long = not_long;
    }

pub line_front : (xs : List ℕ) (allowed : ℕ) → length xs ≤ allowed → (HasTooLongLine xs allowed → ⊥) → HasNoNewline (take (min allowed (LONGEST_LINE + 1)) xs) → IsLineFront xs allowed
line_front xs allowed h not_long p =
    let short : length xs ≤ LONGEST_LINE =
    elim (leb_tells (length xs) LONGEST_LINE) as (λ _. length xs ≤ LONGEST_LINE) [
      | inl low ↦ low.1
      | inr high ↦ absurd (not_long (too_long_below xs allowed high.1 (let l : LONGEST_LINE < length xs = high.1 in omega arith) p))
    ] in
    record {
      one_line = front_is_all xs (min allowed (LONGEST_LINE + 1)) (omega arith) p;
      short = short;
      within = h;
    }
