use Rattle.std.proofs.Common.{◌≡◌, ◌∙◌, IsTrue, Ok, Some, ap, codes, option_map, sym, true, arith}
use Rattle.std.proofs.lemmas.Slice.Eq.{bytes_eq-Decides}
use Rattle.json.specs.Json.{read_key}
use Rattle.serde_json.specs.Data.{no_members, put, string}
use Rattle.graph_meaning.specs.declared.event.Event.TheVariants.{Alloc}
use Rattle.trace_reader.specs.Meaning.{event_of_json}
use Rattle.trace_reader.specs.Objects.{value_data}
use Rattle.trace_reader.specs.Skips.{member_depth}
use Rattle.trace_reader.proofs.FieldLemmas.{event_same}
use Rattle.trace_reader.proofs.UsualLemmas.{alloc_meant, four_made, made_text, member_made, name_meant, thread_alloc_meant}
use Rattle.trace_reader.proofs.usual.alloc_fields.Goals as goal

pub returns-then-equals : goal.returns-then-equals
returns-then-equals c = λ legal text is.
    let id = value_data c.in_ok-plain_value.field-0 in
    let kind = value_data c.in_ok-plain_value-2.field-0 in
    let slots = value_data c.in_ok-plain_value-3.field-0 in
    let thread = value_data c.in_ok-plain_value-4.field-0 in
    let first = put (codes "op") (string (codes "alloc")) no_members in
    let second = put (codes "id") id first in
    let third = put (codes "type") kind second in
    let fourth = put (codes "slots") slots third in
    let fifth = put (codes "thread") thread fourth in
    let same : c.equals.result ≡ true = grind arith in
    let found : c.in-Some.found.now ≡ codes "thread" = (bytes_eq-Decides c.in-Some.found.now (codes "thread")).0 (sym c.equals.ensures ∙ same) in
    let key : read_key c.plain_value-3.new.reader ≡ Some (Some c.in-Some.found.now, c.next_key.new.self) = grind arith in
    let behind : read_key c.plain_value-then-equals.new.reader ≡ Some (option_map (λ k. k.now) c.in_ok-key-2.key, c.next_key-then-equals.new.self) = grind arith in
    let last : IsTrue c.ends_behind.result = grind arith in
    let rest = c.ends_behind.ensures last c.plain_value-then-equals.new.reader behind fifth in
    let all = rest.0 in
    let made = four_made (codes "op") (codes "id") (codes "type") (codes "slots") (string (codes "alloc")) id kind slots all _ _ _ _ _
    (_, c.in_ok-take_key.ensures, c.in_ok-take_text.ensures.value, c.in_ok-take_text.ensures.shorter)
    (_, c.in_ok-take_key-2.ensures, c.in_ok-plain_value.ensures.value member_depth, c.in_ok-plain_value.ensures.shorter)
    (_, c.in_ok-take_key-3.ensures, c.in_ok-plain_value-2.ensures.value member_depth, c.in_ok-plain_value-2.ensures.shorter)
    (_, c.in_ok-take_key-4.ensures, c.in_ok-plain_value-3.ensures.value member_depth, c.in_ok-plain_value-3.ensures.shorter)
    (member_made fourth (codes "thread") thread all _ _
    (_, key ∙ ap (λ k. Some (Some k, c.next_key.new.self)) found, c.in_ok-plain_value-4.ensures.value member_depth, c.in_ok-plain_value-4.ensures.shorter) rest.1) in
    ap event_of_json (made_text text c.take_begin.new.reader all (is ∙ c.in_ok-take_begin.ensures) made)
    ∙ event_same all fifth rest.2
    ∙ thread_alloc_meant id kind slots thread c.in_ok-id.id c.in_ok-slots.slots c.in_ok-thread.thread c.in_ok-kind.kind.now
    (sym c.in_ok-id.ensures) (name_meant kind c.in_ok-kind.kind.now (sym c.in_ok-kind.ensures) legal) (sym c.in_ok-slots.ensures) (sym c.in_ok-thread.ensures)

pub returns : goal.returns
returns c = λ legal text is.
    let id = value_data c.in_ok-plain_value.field-0 in
    let kind = value_data c.in_ok-plain_value-2.field-0 in
    let slots = value_data c.in_ok-plain_value-3.field-0 in
    let first = put (codes "op") (string (codes "alloc")) no_members in
    let second = put (codes "id") id first in
    let third = put (codes "type") kind second in
    let fourth = put (codes "slots") slots third in
    let behind : read_key c.plain_value-3.new.reader ≡ Some (option_map (λ k. k.now) c.in_ok-key.key, c.next_key.new.self) = grind arith in
    let last : IsTrue c.ends_behind-2.result = grind arith in
    let rest = c.ends_behind-2.ensures last c.plain_value-3.new.reader behind fourth in
    let zero : 0 ≡ c.in_ok-of.field-0 = grind arith in
    let all = rest.0 in
    let made = four_made (codes "op") (codes "id") (codes "type") (codes "slots") (string (codes "alloc")) id kind slots all _ _ _ _ _
    (_, c.in_ok-take_key.ensures, c.in_ok-take_text.ensures.value, c.in_ok-take_text.ensures.shorter)
    (_, c.in_ok-take_key-2.ensures, c.in_ok-plain_value.ensures.value member_depth, c.in_ok-plain_value.ensures.shorter)
    (_, c.in_ok-take_key-3.ensures, c.in_ok-plain_value-2.ensures.value member_depth, c.in_ok-plain_value-2.ensures.shorter)
    (_, c.in_ok-take_key-4.ensures, c.in_ok-plain_value-3.ensures.value member_depth, c.in_ok-plain_value-3.ensures.shorter)
    rest.1 in
    ap event_of_json (made_text text c.take_begin.new.reader all (is ∙ c.in_ok-take_begin.ensures) made)
    ∙ event_same all fourth rest.2
    ∙ alloc_meant id kind slots c.in_ok-id.id c.in_ok-slots.slots c.in_ok-kind.kind.now
    (sym c.in_ok-id.ensures) (name_meant kind c.in_ok-kind.kind.now (sym c.in_ok-kind.ensures) legal) (sym c.in_ok-slots.ensures)
    ∙ ap (λ t. Ok (Alloc c.in_ok-id.id c.in_ok-kind.kind.now c.in_ok-slots.slots t)) zero
