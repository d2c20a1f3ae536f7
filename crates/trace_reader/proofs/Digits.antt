-- The number that a text of digits writes.
use Rattle.std.proofs.Common.{◌≡◌, ℕ, ◌+◌, ◌-◌, ◌*◌, ◌<◌, ◌≤◌, ◌^◌, List, [], ◌∷◌, ◌++◌, length, take, get_or, false, Some, refl, sym, ap, ◌∙◌, subst, arith, append-nil, lt-ltb, ne_eqb}
use Rattle.std.proofs.lemmas.List.{take_more}
use Rattle.std.specs.Str.Parse.{AllDigits, digits_value}
use Rattle.std.specs.Char.{digit_value}
use Rattle.std.proofs.lemmas.Int.Digits.{digits_push, digits_value_push}
use Rattle.std.proofs.lemmas.Str.{digit_value_digit}
use Rattle.std.proofs.lemmas.Str.Parse.{digit_at, digits_value_short, numerals_by_value, tells_digits}
use Rattle.fast_float.specs.Text.{Parts, scan, IsWellFormed}
use Rattle.fast_float.proofs.Writing.{scan-text_of}
use Rattle.serde_json.specs.Data.{unsigned}
use Rattle.serde_json.specs.Read.{number_of, number_from}

-- ---- the digits before a place

pub digits_below : (k : ℕ) (s : List ℕ) → length s ≤ k → AllDigits 10 s → digits_value 10 s < 10 ^ k
digits_below k s few all = digits_value_short (numerals_by_value (AllDigits 10) tells_digits) s k all few

module _ (s : List ℕ) (at : ℕ) (within : at < length s) where
  pub digit_more : (48 ≤ get_or s at 0) × (get_or s at 0 ≤ 57) → AllDigits 10 (take at s)
      → AllDigits 10 (take (at + 1) s) × (digits_value 10 (take (at + 1) s) ≡ digits_value 10 (take at s) * 10 + (get_or s at 0 - 48))
  digit_more range all =
      let b = get_or s at 0 in
      let more : take (at + 1) s ≡ take at s ++ b ∷ [] = take_more s at 0 within in
      let is : digit_value b + 48 ≡ b = digit_value_digit b range in (
        subst (AllDigits 10) (sym more) (digits_push 10 (take at s) b all (omega (arith, is, range.1))),
        ap (digits_value 10) more ∙ digits_value_push 10 (take at s) b ∙ omega (arith, is),
      )

-- ---- the whole text

abbrev parts : List ℕ → Parts
parts s = record { whole = s; point = false; fraction = []; exponent_negative = false; exponent = []; len = length (s ++ []) }

pub number_of-digits : (s : List ℕ) → 0 < length s → AllDigits 10 s → digits_value 10 s < 2 ^ 64 → number_of s ≡ Some (unsigned (digits_value 10 s))
unfolding number_of
number_of-digits s some all small =
    let formed : IsWellFormed (parts s) = record { whole_digits = all; fraction_digits = tt; exponent_digits = tt; no_point = λ _. refl; no_exponent = λ _. refl; len_is = refl } in
    let scanned : scan s ≡ parts s = ap scan (sym (append-nil s)) ∙ scan-text_of (parts s) formed in
    let digit = digit_at s 0 all some in
    let no_minus = ne_eqb (get_or s 0 0) 45 (λ e. omega (arith, digit, e)) in
    rw no_minus (ap (number_from false) scanned ∙ rw (lt-ltb _ _ some) (rw append-nil (rw (lt-ltb _ _ small))))
