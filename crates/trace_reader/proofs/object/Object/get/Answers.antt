use Rattle.std.proofs.Common.{ap, sym, ◌∙◌, option_map}
use Rattle.trace_reader.specs.Objects.{value_data, value_of}
use Rattle.trace_reader.proofs.FieldLemmas.{get_member-all_fields}
use Rattle.trace_reader.proofs.object.Object.get.Goals as goal

pub returns-in-Plain : goal.returns-in-Plain
returns-in-Plain c =
    rw c.in-Plain.is (ap (option_map value_data) c.get.ensures ∙ sym (get_member-all_fields (value_of c.in-Plain.fields.now) c.args.field))
