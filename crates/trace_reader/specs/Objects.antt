-- An object's fields, in the form in which they were read.
use Rattle.std.specs.Prelude.{◌≡◌, ℕ, List, [], ◌∷◌, length, replicate, slice_index_or, Option, None, Some, option_map}
use Rattle.std.specs.List.{position_or_len}
use Rattle.std.specs.Str.{bytes_eq}
use Rattle.serde_json.specs.Data.{Data, null, boolean, number, unsigned, string, object, Members, no_members, put}
use Rattle.serde_json.specs.Find.{get_member}
use Rattle.serde_json.specs.View.{view}
use Rattle.graph_meaning.specs.declared.refusal.FieldName.{FieldName}
use Rattle.graph_meaning.specs.declared.refusal.FieldName.TheVariants.{OpField, IdField, TypeField, SlotsField, ThreadField, AtField, SlotField}
use Rattle.graph_meaning.specs.declared.refusal.FieldName.TheVariants.{ToField, NameField, LimitField, OwnerField, OwneeField, WeakField}
use Rattle.trace_reader.specs.Meaning.{field_text}
use Rattle.trace_reader.specs.declared.fields.Fields.{Fields}
use Rattle.trace_reader.specs.declared.object.FieldValue.{FieldValue}
use Rattle.trace_reader.specs.declared.object.FieldValue.TheVariants.{Null, Bool, Whole, Text, Json}
use Rattle.trace_reader.specs.declared.object.Object.{Object}
use Rattle.trace_reader.specs.declared.object.Object.TheVariants as objects

-- the JSON value of a field
abbrev pub value_data : FieldValue → Data
value_data Null = null
value_data (Bool b) = boolean b
value_data (Whole n) = number (unsigned n)
value_data (Text s) = string s.now
value_data (Json v) = view v.now

-- ---- the fields of an object

abbrev pub all_fields : List FieldName
all_fields =
    OpField ∷ IdField ∷ TypeField ∷ SlotsField ∷ ThreadField ∷ AtField ∷ SlotField ∷ ToField ∷ NameField ∷ LimitField ∷ OwnerField ∷ OwneeField ∷ WeakField ∷ []

-- the place of a field among them all, at which its value stands
abbrev pub place_of : FieldName → ℕ
place_of field = position_or_len (λ other. bytes_eq (field_text field) (field_text other)) all_fields

abbrev pub no_fields : Fields
no_fields = record { values = replicate (length all_fields) None }

-- the value of a field, if it is there
abbrev pub value_of : Fields → FieldName → Option FieldValue
value_of fields field = slice_index_or fields.values (place_of field) None

-- each field has the value that these members have at its key, and is missing where they have none
abbrev pub HasFieldsOf : Fields → Members → Type 0
HasFieldsOf fields members = (field : FieldName) → option_map value_data (value_of fields field) ≡ get_member (field_text field) members

-- ---- an object of such fields, and of no other members

abbrev pub put_if_some : List ℕ → Option FieldValue → Members → Members
put_if_some key None members = members
put_if_some key (Some v) members = put key (value_data v) members

-- the members of these fields, with their values, as far as they have any
unfoldable pub members_of : (FieldName → Option FieldValue) → List FieldName → Members
members_of value [] = no_members
members_of value (field ∷ fields) = put_if_some (field_text field) (value field) (members_of value fields)

-- the JSON value that was read; of a plain object, what its fields say of it
abbrev pub object_data : Object → Data
object_data (objects.Plain fields) = object (members_of (value_of fields.now) all_fields)
object_data (objects.Any v) = view v.now
