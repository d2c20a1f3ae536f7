use Rattle.std.proofs.Common.{◌≡◌, ◌∷◌, ap, ◌∙◌, arith}
use Rattle.json.specs.Token.{Token}
use Rattle.json.specs.Json.{value}
use Rattle.json.specs.Reads.{token_of}
use Rattle.json.proofs.Grammar.{value_is}
use Rattle.serde_json.specs.Read.{converted, of_json}
use Rattle.trace_reader.proofs.plain.plain_value.Goals as goal

pub returns-in-Null-clause-value : goal.returns-in-Null-clause-value
returns-in-Null-clause-value c = λ depth.
    let first : c.args.reader.now ≡ token_of c.in_ok-next.field-0 ∷ c.next.new.self = grind arith in
    let is : c.args.reader.now ≡ Token.null ∷ c.next.new.self = grind (arith, first) in
    ap (converted of_json) (ap (value depth) is ∙ value_is depth _)

pub returns-in-Bool-clause-value : goal.returns-in-Bool-clause-value
returns-in-Bool-clause-value c = λ depth.
    let first : c.args.reader.now ≡ token_of c.in_ok-next.field-0 ∷ c.next.new.self = grind arith in
    let is : c.args.reader.now ≡ Token.boolean c.in-Bool.b ∷ c.next.new.self = grind (arith, first) in
    ap (converted of_json) (ap (value depth) is ∙ value_is depth _)

pub returns-in-String-clause-value : goal.returns-in-String-clause-value
returns-in-String-clause-value c = λ depth.
    let first : c.args.reader.now ≡ token_of c.in_ok-next.field-0 ∷ c.next.new.self = grind arith in
    let is : c.args.reader.now ≡ Token.string c.in-String.text.now ∷ c.next.new.self = grind (arith, first) in
    ap (converted of_json) (ap (value depth) is ∙ value_is depth _)

pub returns-in_ok-whole_number-in-Number-clause-value : goal.returns-in_ok-whole_number-in-Number-clause-value
returns-in_ok-whole_number-in-Number-clause-value c = λ depth.
    let first : c.args.reader.now ≡ token_of c.in_ok-next.field-0 ∷ c.next.new.self = grind arith in
    let is : c.args.reader.now ≡ Token.number c.in-Number.text.now ∷ c.next.new.self = grind (arith, first) in
    ap (converted of_json) (ap (value depth) is ∙ value_is depth _) ∙ rw c.in_ok-whole_number-in-Number.ensures
