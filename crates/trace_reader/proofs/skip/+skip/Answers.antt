use Rattle.std.proofs.Common.{◌≡◌, ◌-◌, ◌<◌, ◌∷◌, length, None, Some, IsTrue, refl, ap, ◌∙◌, subst, arith}
use Rattle.json.specs.Token.{Token}
use Rattle.json.specs.Json.{after_end_array, read_key, value}
use Rattle.json.specs.Reads.{token_of}
use Rattle.json.proofs.Grammar.{read_key-shorter, value_is}
use Rattle.serde_json.specs.Data.{no_members, put}
use Rattle.trace_reader.specs.Skips.{after_value}
use Rattle.trace_reader.proofs.Skips.{number_passed, array_opened, object_opened, item_skipped, items_skipped, member_skipped, members_skipped}
use Rattle.trace_reader.proofs.skip.+skip.Goals as goal

pub skip_items-items-preserved : goal.skip_items-items-preserved
skip_items-items-preserved t c =
    let l = c.items in
    let n = l.invariant.0 in
    let going : (after_end_array l.reader ≡ None) × (c.take_end_array.new.self ≡ l.reader) = c.items-test.ensures in
    let taken = c.if-not-skip_value.false in
    let r = c.skip_value.new.reader in
    let less : length r < length l.reader = rw (← going.1) (c.skip_value.ensures.shorter taken) in
    let more = item_skipped (value c.args.depth) n l.reader r (omega (arith, l.invariant.1)) going.0 (rw (← going.1) (c.skip_value.ensures.value taken)) in
    (n - 1, omega (arith, l.invariant.1, less), l.invariant.2 ∙ more, omega (arith, l.invariant.3, less))

pub skip_items-returns-clause-value : goal.skip_items-returns-clause-value
skip_items-returns-clause-value t c = λ taken.
    let l = c.items in
    l.invariant.2 ∙ items_skipped (value c.args.depth) l.invariant.0 l.reader c.take_end_array.new.self l.invariant.1 c.items-test.ensures

pub skip_members-members-init : goal.skip_members-members-init
skip_members-members-init t c = (length c.args.reader.now, omega arith, omega arith, no_members, refl)

pub skip_members-returns-in_default-key-clause-value : goal.skip_members-returns-in_default-key-clause-value
skip_members-returns-in_default-key-clause-value t c = λ taken.
    let l = c.members in
    let over : read_key l.reader ≡ Some (None, c.next_key.new.self) = grind arith in
    l.invariant.4 ∙ members_skipped (value c.args.depth) l.invariant.3 l.invariant.0 l.reader c.next_key.new.self l.invariant.1 over

pub skip_members-members-preserved : goal.skip_members-members-preserved
skip_members-members-preserved t c =
    let l = c.members in
    let n = l.invariant.0 in
    let s = c.next_key.new.self in
    let k = c.in-Some._key.now in
    let named : read_key l.reader ≡ Some (Some k, s) = grind arith in
    let less = read_key-shorter l.reader (Some k) s named in
    let taken = c.if-not-skip_value.false in
    let lesser = c.skip_value.ensures.shorter taken in
    let more = member_skipped (value c.args.depth) l.invariant.3 n k l.reader s c.skip_value.new.reader (omega (arith, l.invariant.1)) named (c.skip_value.ensures.value taken) in
    (n - 1, omega (arith, l.invariant.1), omega (arith, l.invariant.2), put k more.0 l.invariant.3, l.invariant.4 ∙ more.1)

pub skip_value-returns-in-Null-clause-value : goal.skip_value-returns-in-Null-clause-value
skip_value-returns-in-Null-clause-value t c = λ taken.
    let first : c.args.reader.now ≡ token_of c.in-Some.token ∷ c.next.new.self = grind arith in
    rw (value_is c.args.depth c.args.reader.now, first) (grind arith)

pub skip_value-returns-in-Number-clause-value : goal.skip_value-returns-in-Number-clause-value
skip_value-returns-in-Number-clause-value t c = λ taken.
    let first : c.args.reader.now ≡ token_of c.in-Some.token ∷ c.next.new.self = grind arith in
    let is : c.args.reader.now ≡ Token.number c.in-Number.text.now ∷ c.next.new.self = grind (arith, first) in
    ap (after_value c.args.depth) is ∙ number_passed c.args.depth c.in-Number.text.now c.next.new.self (subst IsTrue c.is_number.ensures taken)

pub skip_value-returns-then-depth-gt0-clause-value : goal.skip_value-returns-then-depth-gt0-clause-value
skip_value-returns-then-depth-gt0-clause-value t c = λ taken.
    let first : c.args.reader.now ≡ token_of c.in-Some.token ∷ c.next.new.self = grind arith in
    let opened : c.args.reader.now ≡ Token.begin_array ∷ c.next.new.self = first ∙ ap (λ k. token_of k ∷ c.next.new.self) c.in-BeginArray.is in
    ap (after_value c.args.depth) opened ∙ array_opened c.args.depth c.next.new.self (omega arith) ∙ c.skip_items.ensures.value taken

pub skip_value-returns-then-depth-gt0-2-clause-value : goal.skip_value-returns-then-depth-gt0-2-clause-value
skip_value-returns-then-depth-gt0-2-clause-value t c = λ taken.
    let first : c.args.reader.now ≡ token_of c.in-Some.token ∷ c.next.new.self = grind arith in
    let opened : c.args.reader.now ≡ Token.begin_object ∷ c.next.new.self = first ∙ ap (λ k. token_of k ∷ c.next.new.self) c.in-BeginObject.is in
    ap (after_value c.args.depth) opened ∙ object_opened c.args.depth c.next.new.self (omega arith) ∙ c.skip_members.ensures.value taken
