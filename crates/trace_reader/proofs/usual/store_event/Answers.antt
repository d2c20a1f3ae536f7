use Rattle.std.proofs.Common.{◌≡◌, ◌∙◌, IsTrue, Some, ap, codes, option_map, sym, arith}
use Rattle.json.specs.Json.{read_key}
use Rattle.serde_json.specs.Data.{no_members, put, string}
use Rattle.trace_reader.specs.Meaning.{event_of_json}
use Rattle.trace_reader.specs.Objects.{value_data}
use Rattle.trace_reader.specs.Skips.{member_depth}
use Rattle.trace_reader.proofs.FieldLemmas.{event_same}
use Rattle.trace_reader.proofs.UsualLemmas.{four_made, made_text, store_meant}
use Rattle.trace_reader.proofs.usual.store_event.Goals as goal

pub returns : goal.returns
returns c = λ text is.
    let at = value_data c.in_ok-plain_value.field-0 in
    let slot = value_data c.in_ok-plain_value-2.field-0 in
    let to = value_data c.in_ok-plain_value-3.field-0 in
    let first = put (codes "op") (string (codes "store")) no_members in
    let second = put (codes "at") at first in
    let third = put (codes "slot") slot second in
    let fourth = put (codes "to") to third in
    let last : IsTrue c.ends_behind.result = grind arith in
    let behind : read_key c.plain_value-3.new.reader ≡ Some (option_map (λ k. k.now) c.in_ok-key.key, c.next_key.new.self) = grind arith in
    let rest = c.ends_behind.ensures last c.plain_value-3.new.reader behind fourth in
    let all = rest.0 in
    let made = four_made (codes "op") (codes "at") (codes "slot") (codes "to") (string (codes "store")) at slot to all _ _ _ _ _
    (_, c.in_ok-take_key.ensures, c.in_ok-take_text.ensures.value, c.in_ok-take_text.ensures.shorter)
    (_, c.in_ok-take_key-2.ensures, c.in_ok-plain_value.ensures.value member_depth, c.in_ok-plain_value.ensures.shorter)
    (_, c.in_ok-take_key-3.ensures, c.in_ok-plain_value-2.ensures.value member_depth, c.in_ok-plain_value-2.ensures.shorter)
    (_, c.in_ok-take_key-4.ensures, c.in_ok-plain_value-3.ensures.value member_depth, c.in_ok-plain_value-3.ensures.shorter)
    rest.1 in
    ap event_of_json (made_text text c.take_begin.new.reader all (is ∙ c.in_ok-take_begin.ensures) made)
    ∙ event_same all fourth rest.2
    ∙ store_meant at slot to c.in_ok-at.at c.in_ok-slot.slot c.in_ok-to.to (sym c.in_ok-at.ensures) (sym c.in_ok-slot.ensures) (sym c.in_ok-to.ensures)
