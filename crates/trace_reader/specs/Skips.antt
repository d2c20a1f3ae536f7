-- What follows a value, and a member's value as it is taken.
use Rattle.std.specs.Prelude.{◌≡◌, ℕ, List, length, Option, Some, option_map}
use Rattle.json.specs.Token.{Token}
use Rattle.json.specs.Json.{items, members, value}
use Rattle.serde_json.specs.Data.{Data, Members, no_members, put}
use Rattle.serde_json.specs.Read.{converted, of_items, of_json, of_members}
use Rattle.trace_reader.specs.Objects.{HasFieldsOf}
use Rattle.trace_reader.specs.declared.fields.Fields.{Fields}

-- The object around a member's value is one of the levels that serde_json lets nest.
abbrev pub member_depth : ℕ
member_depth = 126

-- the tokens behind the value that comes first, if serde_json takes it where arrays and objects may nest so deep
abbrev pub after_value : ℕ → List Token → Option (List Token)
after_value depth ts = option_map (λ p. p.1) (converted of_json (value depth ts))

-- the tokens behind the bracket that closes an array, if serde_json takes all items before it
abbrev pub after_items : ℕ → List Token → Option (List Token)
after_items depth ts = option_map (λ p. p.1) (converted of_items (items (value depth) (length ts) ts))

-- the tokens behind the brace that closes an object, if serde_json takes all members before it
abbrev pub after_members : ℕ → List Token → Option (List Token)
after_members depth ts = option_map (λ p. p.1) (converted (λ all. of_members all no_members) (members (value depth) (length ts) ts))

-- these tokens are a member's value and those behind it
abbrev pub IsMemberValue : List Token → Data → List Token → Type 0
IsMemberValue old d new = converted of_json (value member_depth old) ≡ Some (d, new)

-- the fields of an object, before and after a member more
abbrev pub TakesMember : Fields → Fields → List ℕ → Data → Type 0
TakesMember old new key d = (members : Members) → HasFieldsOf old members → HasFieldsOf new (put key d members)
