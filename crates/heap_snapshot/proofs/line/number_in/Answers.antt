use Rattle.std.proofs.Common.{◌≡◌, true, sym, ◌∙◌, arith}
use Rattle.std.proofs.lemmas.Bool.{both_ways}
use Rattle.std.proofs.lemmas.Slice.Eq.{bytes_eq-Decides}
use Rattle.heap_snapshot.proofs.Numbers.{number_in-parsed, number_in-unparsed, number_in-otherwise}
use Rattle.heap_snapshot.proofs.line.number_in.Goals as goal

pub returns-in_default : goal.returns-in_default
returns-in_default c = number_in-unparsed c.args.text.now c.parse.result c.in_default.field-0 c.parse.ensures.value.0 c.in_default.is

pub returns-then-eq : goal.returns-then-eq
returns-then-eq c =
    let same : c.format.result.now ≡ c.args.text.now = (bytes_eq-Decides c.format.result.now c.args.text.now).0 (sym c.eq.ensures ∙ c.if-eq.true) in
    number_in-parsed c.args.text.now c.in-Ok.number (omega arith) (sym c.format.ensures.text ∙ same)

pub returns-else-eq : goal.returns-else-eq
returns-else-eq c =
    number_in-otherwise c.args.text.now c.parse.result c.in-Ok.number c.parse.ensures.value.0 c.in-Ok.is (λ same.
    let equal : c.eq.result ≡ true = c.eq.ensures ∙ (bytes_eq-Decides c.format.result.now c.args.text.now).1 (c.format.ensures.text ∙ same) in
    both_ways c.eq.result c.if-eq.false equal)
