use Rattle.std.proofs.Common.{◌≡◌, IsTrue, None, Some, arith}
use Rattle.json.specs.Json.{read_key}
use Rattle.trace_reader.specs.Skips.{member_depth}
use Rattle.trace_reader.proofs.Skips.{value_passed}
use Rattle.trace_reader.proofs.UsualLemmas.{ended, unnamed_member}
use Rattle.trace_reader.proofs.usual.names_no_field.Goals as goal

pub returns-in-Ok-None : goal.returns-in-Ok-None
returns-in-Ok-None c = λ last.
    let l = c.members in
    let r = c.skip_value.new.reader in
    let rest = c.next_key.new.self in
    let passed : IsTrue c.skip_value.result = grind arith in
    let is = value_passed member_depth l.reader r (c.skip_value.ensures.value passed) in
    let unnamed : c.field_spelled.result ≡ None = grind arith in
    let closed : read_key r ≡ Some (None, rest) = grind arith in
    l.invariant.1 (unnamed_member l.key.now l.reader r rest None is.0 is.1 (c.skip_value.ensures.shorter passed)
    c.field_spelled.result c.field_spelled.ensures unnamed closed (ended rest (c.is_at_end.ensures last)))

pub members-preserved : goal.members-preserved
members-preserved c =
    let l = c.members in
    let r = c.skip_value.new.reader in
    let rest = c.next_key.new.self in
    let k = c.in-Ok-Some.next.now in
    let passed : IsTrue c.skip_value.result = grind arith in
    let is = value_passed member_depth l.reader r (c.skip_value.ensures.value passed) in
    let unnamed : c.field_spelled.result ≡ None = grind arith in
    let following : read_key r ≡ Some (Some k, rest) = grind arith in (
      search,
      λ ends. l.invariant.1 (unnamed_member l.key.now l.reader r rest (Some k) is.0 is.1 (c.skip_value.ensures.shorter passed) c.field_spelled.result c.field_spelled.ensures unnamed following ends),
    )
