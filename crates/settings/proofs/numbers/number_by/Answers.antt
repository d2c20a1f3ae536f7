use Rattle.std.proofs.Common.{sym, ◌∙◌}
use Rattle.settings.proofs.Digits.{unparsed}
use Rattle.settings.proofs.numbers.number_by.Goals as goal

pub returns-in_default-3 : goal.returns-in_default-3
returns-in_default-3 c =
    unparsed c.args.least c.args.most c.args.text.now c.in_default.field-0 c.ranges.most.fits (sym c.is_number.ensures ∙ c.if-not-is_number.false) c.in_default.ensures.value.0
