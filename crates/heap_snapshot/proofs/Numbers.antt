-- The number that a text is.
use Rattle.std.proofs.Common.{◌≡◌, ℕ, ◌<◌, ◌^◌, ◌&&◌, true, ltb, Option, None, Some, Result, Ok, Err, List, ap, sym, refl, ◌∙◌, subst, arith}
use Rattle.std.specs.Str.{bytes_eq}
use Rattle.std.specs.Fmt.{decimal}
use Rattle.std.specs.Str.Parse.{digits_value, ParsesUnsigned}
use Rattle.std.proofs.lemmas.Bool.{ltb-true, lt-ltb, and_parts, and_from, cond-true}
use Rattle.std.proofs.lemmas.Option.{cond_some}
use Rattle.std.proofs.lemmas.Slice.Eq.{bytes_eq-Decides}
use Rattle.std.proofs.lemmas.Fmt.{decimal_is_IsNumeral, parse-decimal}
use Rattle.heap_snapshot.specs.Lines.{number_in}

-- a text that is a number is written as that number is
pub number_in-is : (text : List ℕ) (n : ℕ) → number_in text ≡ Some n → (text ≡ decimal n) × (n < 2 ^ 32)
unfolding number_in
number_in-is text n is =
    let m = digits_value 10 text in
    let parts = cond_some (ltb m (2 ^ 32) && bytes_eq (decimal m) text) m n is in
    let both = and_parts (ltb m (2 ^ 32)) (bytes_eq (decimal m) text) parts.0 in
    let written : decimal m ≡ text = (bytes_eq-Decides (decimal m) text).0 both.1 in
    let below : m < 2 ^ 32 = ltb-true m (2 ^ 32) both.0 in
    (sym written ∙ ap decimal parts.1, subst (λ k. k < 2 ^ 32) parts.1 below)

-- how a number is written is that number
pub number_in-decimal : (n : ℕ) → n < 2 ^ 32 → number_in (decimal n) ≡ Some n
unfolding number_in
number_in-decimal n below =
    let small : n < 2 ^ 64 = omega arith in
    let value : digits_value 10 (decimal n) ≡ n = (decimal_is_IsNumeral n small).1 in
    let same : bytes_eq (decimal (digits_value 10 (decimal n))) (decimal n) ≡ true = (bytes_eq-Decides (decimal (digits_value 10 (decimal n))) (decimal n)).1 (ap decimal value) in
    let low : ltb (digits_value 10 (decimal n)) (2 ^ 32) ≡ true = lt-ltb (digits_value 10 (decimal n)) (2 ^ 32) (subst (λ k. k < 2 ^ 32) (sym value) below) in
    cond-true (ltb (digits_value 10 (decimal n)) (2 ^ 32) && bytes_eq (decimal (digits_value 10 (decimal n))) (decimal n)) (Some (digits_value 10 (decimal n))) None (and_from _ _ low same)
    ∙ ap (λ k. Some k) value

-- what `parse` read, where that is written as the text is
pub number_in-parsed : (text : List ℕ) (n : ℕ) → n < 2 ^ 32 → decimal n ≡ text → Some n ≡ number_in text
number_in-parsed text n below same = sym (subst (λ t. number_in t ≡ Some n) same (number_in-decimal n below))

none_from : {A : Type 0} (o : Option A) → ((x : A) → o ≡ Some x → ⊥) → None ≡ o
none_from None never = refl
none_from (Some x) never = absurd (never x refl)

-- no number is read where `parse` reads none
pub number_in-unparsed : {E : Type 0} (text : List ℕ) (r : Result ℕ E) (e : E) → ParsesUnsigned 32 10 text r → r ≡ Err e → None ≡ number_in text
number_in-unparsed {E} text r e parses failed =
    none_from (number_in text) (λ n is.
    let parts = number_in-is text n is in
    let small : n < 2 ^ 64 = omega (arith, parts.1) in
    let read : r ≡ Ok n = parse-decimal 32 n text r parts.1 small parts.0 parses in cc)

-- or where what it read is written otherwise
pub number_in-otherwise : {E : Type 0} (text : List ℕ) (r : Result ℕ E) (n : ℕ) → ParsesUnsigned 32 10 text r → r ≡ Ok n → (decimal n ≡ text → ⊥) → None ≡ number_in text
number_in-otherwise {E} text r n parses found other =
    none_from (number_in text) (λ m is.
    let parts = number_in-is text m is in
    let small : m < 2 ^ 64 = omega (arith, parts.1) in
    let read : r ≡ Ok m = parse-decimal 32 m text r parts.1 small parts.0 parses in
    let same : n ≡ m = cc in other (ap decimal same ∙ sym parts.0))
