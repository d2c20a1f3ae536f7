use Rattle.std.proofs.Common.{◌≡◌, ◌≤◌, ◌-◌, ◌∙◌, Some, None, IsTrue, length, refl, arith}
use Rattle.json.specs.Json.{value, read_key}
use Rattle.json.proofs.Grammar.{read_key-shorter}
use Rattle.serde_json.specs.Data.{no_members, put}
use Rattle.trace_reader.specs.Skips.{member_depth}
use Rattle.trace_reader.proofs.FieldLemmas.{no_fields_of}
use Rattle.trace_reader.proofs.ObjectLemmas.{member_passed, members_passed}
use Rattle.trace_reader.proofs.plain.read_members.Goals as goal

pub members-init : goal.members-init
members-init c =
    let at_most : length c.args.reader.now ≤ length c.args.reader.now = omega arith in
    (no_members, no_fields_of c.args.fields.now c.requires, length c.args.reader.now, at_most, refl)

pub returns-in_default-key : goal.returns-in_default-key
returns-in_default-key c =
    let l = c.members in
    let over : read_key l.reader ≡ Some (None, c.next_key.new.self) = grind arith in
    λ yes. (
      l.invariant.0,
      l.invariant.1,
      l.invariant.4 ∙ members_passed (value member_depth) l.invariant.0 l.invariant.2 l.reader c.next_key.new.self l.invariant.3 over,
    )

pub members-preserved : goal.members-preserved
members-preserved c =
    let l = c.members in
    let found = l.invariant.0 in
    let n = l.invariant.2 in
    let k = c.in-Some.key.now in
    let s = c.next_key.new.self in
    let r = c.read_member.new.reader in
    let named : read_key l.reader ≡ Some (Some k, s) = grind arith in
    let less = read_key-shorter l.reader (Some k) s named in
    let taken : IsTrue c.read_member.result = grind arith in
    let lesser = c.read_member.ensures.shorter taken in
    let is = c.read_member.ensures.value taken in (
      put k is.0 found,
      is.2 found l.invariant.1,
      n - 1,
      omega (arith, l.invariant.3),
      l.invariant.4 ∙ member_passed (value member_depth) found n k l.reader s r is.0 (omega (arith, l.invariant.3)) named is.1,
    )
