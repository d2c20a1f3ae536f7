use Rattle.std.proofs.Common.{◌≡◌, [], ◌∷◌, ◌∙◌, ap, Some, arith}
use Rattle.json.specs.Token.{Token}
use Rattle.json.specs.Lex.{tokens}
use Rattle.trace_reader.proofs.ObjectLemmas.{object_read}
use Rattle.trace_reader.proofs.plain.read_plain.Goals as goal

pub returns-then-read_members : goal.returns-then-read_members
returns-then-read_members c = λ last.
    let text = c.args.text.now in
    let rest = c.next.new.self in
    let given = c.read_members.ensures c.if-read_members.true in
    let begun : tokens text ≡ Token.begin_object ∷ rest = grind arith in
    let ended : c.read_members.new.reader ≡ [] = grind arith in
    (given.0, object_read text rest given.0 begun (given.2 ∙ ap (λ ts. Some (given.0, ts)) ended), given.1)
