use Rattle.std.proofs.Common.{◌≡◌, None, Some, refl}
use Rattle.trace_reader.specs.Objects.{value_data}
use Rattle.trace_reader.specs.Skips.{member_depth}
use Rattle.trace_reader.proofs.FieldLemmas.{fields_put, fields_kept}
use Rattle.trace_reader.proofs.Skips.{value_passed}
use Rattle.trace_reader.proofs.plain.read_member.Goals as goal

pub returns-in_default-clause-value : goal.returns-in_default-clause-value
returns-in_default-clause-value c = λ passed.
    let is = value_passed member_depth c.args.reader.now c.skip_value.new.reader (c.skip_value.ensures.value passed) in (
      is.0,
      is.1,
      λ members has. fields_kept c.args.fields.now members has c.args.key.now is.0 (λ f named. let e : None ≡ Some f = (c.in_default.ensures f).1 named in cc),
    )

pub returns-clause-value : goal.returns-clause-value
returns-clause-value c = λ taken.
    let v = c.in-Some-plain_value.value in
    let named = (c.in-Some.ensures c.in-Some.field).0 refl in (
      value_data v,
      c.in-Some-plain_value.ensures.value member_depth,
      λ members has. fields_put c.args.fields.now c.set.new.self members has c.in-Some.field v c.set.ensures.value c.set.ensures.others c.args.key.now named,
    )
