use Rattle.std.proofs.Common.{◌≡◌, ◌<◌, Some, length, take, sym, ap, ◌∙◌, subst, arith}
use Rattle.std.proofs.lemmas.List.{take_all, length-take-le}
use Rattle.std.specs.Str.Parse.{AllDigits, digits_value}
use Rattle.serde_json.specs.Data.{unsigned}
use Rattle.trace_reader.proofs.Digits.{digits_below, digit_more, number_of-digits}
use Rattle.trace_reader.proofs.plain.number_of_few_digits.Goals as goal

pub overflow_mul-value : goal.overflow_mul-value
overflow_mul-value c =
    let l = c.digits in
    let s = c.args.bytes.now in
    let passed = length-take-le l.at s l.invariant.0 in
    omega (arith, l.invariant.2, digits_below 18 (take l.at s) (omega arith) l.invariant.1)

pub overflow_add-value : goal.overflow_add-value
overflow_add-value c =
    let l = c.digits in
    let s = c.args.bytes.now in
    let passed = length-take-le l.at s l.invariant.0 in
    omega (arith, l.invariant.2, digits_below 18 (take l.at s) (omega arith) l.invariant.1)

pub digits-preserved : goal.digits-preserved
digits-preserved c =
    let l = c.digits in
    let s = c.args.bytes.now in
    let byte = c.type_inv.bytes l.at in
    let more = digit_more s l.at c.digits-test.true (omega (arith, byte), omega (arith, byte)) l.invariant.1 in
    (omega arith, more.0, omega (arith, byte, more.1, l.invariant.2))

pub returns : goal.returns
returns c =
    let l = c.digits in
    let s = c.args.bytes.now in
    let whole : take l.at s ≡ s = take_all l.at s (omega (arith, l.invariant.0)) in
    let all : AllDigits 10 s = subst (AllDigits 10) whole l.invariant.1 in
    let value : l.value ≡ digits_value 10 s = l.invariant.2 ∙ ap (digits_value 10) whole in
    let some : 0 < length s = grind arith in
    number_of-digits s some all (omega (arith, digits_below 19 s (omega arith) all)) ∙ ap (λ n. Some (unsigned n)) (sym value)
