-- Numbers as the words may write them.
use Rattle.std.proofs.Common.{◌≡◌, ℕ, ◌<◌, ◌^◌, List, [], ◌∷◌, length, Bool, true, false, None, Err, refl, ap, ◌∙◌, arith}
use Rattle.std.specs.Prelude.{◌&&◌, nat_le}
use Rattle.std.specs.Char.{is_ascii_digit}
use Rattle.std.specs.List.{list_all}
use Rattle.std.specs.Str.{all_ascii_digits}
use Rattle.std.specs.Str.Parse.{digits_value, ParsesUnsigned}
use Rattle.std.proofs.lemmas.Bool.Decides.{nat_tests}
use Rattle.std.proofs.lemmas.Bool.{and_parts}
use Rattle.std.proofs.lemmas.Str.Parse.{numerals_by_value, tells_all_ascii_digits, parse_digits}
use Rattle.settings.specs.declared.numbers.TheConstants.{MOST_DIGITS}
use Rattle.settings.specs.Numbers.{is_number, number_by}

pub all_digits : (text : List ℕ) → all_ascii_digits text ≡ list_all is_ascii_digit text
all_digits [] = refl
all_digits (c ∷ text) = ap (λ b. is_ascii_digit c && b) (all_digits text)

-- a number is not empty, and has digits alone
number_parts : (text : List ℕ) → is_number text ≡ true → (0 < length text) × (all_ascii_digits text ≡ true)
number_parts text is =
    let (bounds, digits) = and_parts (nat_le 1 (length text) && nat_le (length text) MOST_DIGITS) (list_all is_ascii_digit text) is in
    let (some, few) = and_parts (nat_le 1 (length text)) (nat_le (length text) MOST_DIGITS) bounds in
    (grind (arith, some, nat_tests), all_digits text ∙ digits)

-- a number that can't be parsed as a `u32` is more than a `u32` may be
pub unparsed : {E : Type 0} (least most : ℕ) (text : List ℕ) (e : E) → most < 2 ^ 32 → is_number text ≡ true → ParsesUnsigned 32 10 text (Err e) → None ≡ number_by least most text
unfolding number_by
unparsed {E} least most text e fits is parsed =
    let large : nat_le (digits_value 10 text) most ≡ false = go (nat_le (digits_value 10 text) most) refl in
    rw (is, large, and_false (nat_le least (digits_value 10 text))) refl
  where
    go : (b : Bool) → nat_le (digits_value 10 text) most ≡ b → b ≡ false
    go false few = refl
    go true few = absurd (parse_digits (numerals_by_value _ tells_all_ascii_digits) 32 text (Err e) parsed (number_parts text is).1 ((number_parts text is).0, grind (arith, few, fits, nat_tests)))

    and_false : (b : Bool) → (b && false) ≡ false
    and_false true = refl
    and_false false = refl
