-- A line whose members are read one after another.
use Rattle.std.specs.Prelude.{◌≡◌, ℕ, ◌≤◌, IsTrue, List, [], length, Option, Some, Ok}
use Rattle.heap_base.specs.Names.{is_name}
use Rattle.json.specs.Token.{Token}
use Rattle.json.specs.Lex.{tokens}
use Rattle.json.specs.Json.{members, read_key, value}
use Rattle.serde_json.specs.Data.{Members}
use Rattle.serde_json.specs.Find.{get_member}
use Rattle.serde_json.specs.Read.{converted, of_members, read}
use Rattle.graph_meaning.specs.declared.event.Event.{Event}
use Rattle.graph_meaning.specs.declared.event.Event.TheVariants.{Alloc}
use Rattle.graph_meaning.specs.declared.refusal.FieldName.{FieldName}
use Rattle.trace_reader.specs.Meaning.{event_of_json, field_text}
use Rattle.trace_reader.specs.Skips.{member_depth}
use Rattle.trace_reader.specs.declared.usual.AllocFields.{AllocFields}

-- a text of these tokens is this operation
abbrev pub IsEventOf : List Token → Event → Type 0
IsEventOf ts event = (text : List ℕ) → tokens text ≡ ts → event_of_json (read text) ≡ Ok event

-- a text of these tokens is an alloc with these fields, if its type is a name
abbrev pub IsAllocOf : List Token → AllocFields → Type 0
IsAllocOf ts fields = IsTrue (is_name fields.kind.now) → IsEventOf ts (Alloc fields.id fields.kind.now fields.slots fields.thread)

-- these tokens are the rest of an object, behind the members that were found, which then has all these members; nothing stands behind it
abbrev pub Makes : Members → List Token → Members → Type 0
Makes found ts all = (n : ℕ) → length ts ≤ n → converted (λ more. of_members more found) (members (value member_depth) n ts) ≡ Some (all, [])

-- the fields have the same values in both
abbrev pub HaveSameFields : Members → Members → Type 0
HaveSameFields some others = (field : FieldName) → get_member (field_text field) some ≡ get_member (field_text field) others

-- these tokens are the rest of an object, whose members name no field; nothing stands behind it
abbrev pub NamesNoMore : List Token → Type 0
NamesNoMore ts = (found : Members) → (all : Members) × Makes found ts all × HaveSameFields all found

-- these tokens are what is left of an object behind this key, or behind the brace that closes it: its members name no field, and nothing stands behind it
abbrev pub EndsBehind : Option (List ℕ) → List Token → Type 0
EndsBehind key ts = (before : List Token) → read_key before ≡ Some (key, ts) → NamesNoMore before
