use Rattle.std.proofs.Common.{ap, sym, ◌∙◌, subst}
use Rattle.trace_reader.specs.Meaning.{Gives, event_of_json}
use Rattle.trace_reader.proofs.FieldLemmas.{event_of_fields}
use Rattle.trace_reader.proofs.line.event_of_unusual.Goals as goal

pub returns-then-plain : goal.returns-then-plain
returns-then-plain c =
    let given = c.in_ok-plain.ensures c.if-plain.true in
    let fields = c.read_plain.new.fields in
    subst (Gives c.event_of_object.result) (event_of_fields fields given.0 given.2 ∙ ap event_of_json (sym given.1)) c.event_of_object.ensures
