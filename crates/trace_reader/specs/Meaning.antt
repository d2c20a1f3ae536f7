-- What one line of a trace is: no operation, an operation, or the first reason why it is refused.
use Rattle.std.specs.Prelude.{◌≡◌, ⊤, ℕ, ◌==◌, ◌^◌, List, Bool, ◌&&◌, ◌||◌, nat_le, nat_lt, if◌then◌else◌, Option, None, Some, option_map, option_and_then, Result, Ok, Err, codes}
use Rattle.std.specs.List.{list_all}
use Rattle.std.specs.Str.{bytes_eq, is_utf8}
use Rattle.serde_json.specs.Data.{Data, null, boolean, number, string, array, object}
use Rattle.serde_json.specs.Read.{read}
use Rattle.serde_json.specs.Find.{get, as_bool, as_number, as_str, as_u64}
use Rattle.heap_base.specs.Names.{is_name}
use Rattle.heap_base.specs.declared.limits.TheConstants.{MOST_THREADS}
use Rattle.graph_meaning.specs.declared.event.Event.{Event}
use Rattle.graph_meaning.specs.declared.event.Event.TheVariants.{Alloc, Store, SetWeak, Root, AssertDead, StartRegion, AssertAllDead, AssertInstances, AssertUnshared, AssertOwnedBy, Collect}
use Rattle.graph_meaning.specs.declared.refusal.FieldName.{FieldName}
use Rattle.graph_meaning.specs.declared.refusal.FieldName.TheVariants.{OpField, IdField, TypeField, SlotsField, ThreadField, AtField, SlotField}
use Rattle.graph_meaning.specs.declared.refusal.FieldName.TheVariants.{ToField, NameField, LimitField, OwnerField, OwneeField, WeakField}
use Rattle.graph_meaning.specs.declared.refusal.Refusal.{Refusal}
use Rattle.graph_meaning.specs.declared.refusal.Stop.{Stop}
use Rattle.graph_meaning.specs.declared.refusal.Stop.TheVariants.{Refused, OutOfMemory}
use Rattle.graph_meaning.specs.declared.refusal.Refusal.TheVariants.{NotJson, NotObject, UnknownOp, MissingField, BadField}

-- What a line of a trace is.
pub data Item : Type 0 where
  blank : Item
  event : Event → Item
  refused : Refusal → Item

-- ---- fields

-- how a field is spelled in a trace
abbrev pub field_text : FieldName → List ℕ
field_text OpField = codes "op"
field_text IdField = codes "id"
field_text TypeField = codes "type"
field_text SlotsField = codes "slots"
field_text ThreadField = codes "thread"
field_text AtField = codes "at"
field_text SlotField = codes "slot"
field_text ToField = codes "to"
field_text NameField = codes "name"
field_text LimitField = codes "limit"
field_text OwnerField = codes "owner"
field_text OwneeField = codes "ownee"
field_text WeakField = codes "weak"

-- a value if it passes the test
abbrev pub only_if : {A : Type 0} → (A → Bool) → A → Option A
only_if test a = if test a then Some a else None

-- a whole number, written without a fraction, an exponent or a sign, below 2^64
abbrev pub whole_number : Data → Option ℕ
whole_number d = option_and_then as_u64 (as_number d)

-- an id is a whole number from 1 to 4,294,967,295
abbrev pub id_value : Data → Option ℕ
id_value d = option_and_then (only_if (λ n. nat_le 1 n && nat_lt n (2 ^ 32))) (whole_number d)

-- a slot number, a number of slots or a limit is a whole number from 0 to 4,294,967,295
abbrev pub count_value : Data → Option ℕ
count_value d = option_and_then (only_if (λ n. nat_lt n (2 ^ 32))) (whole_number d)

-- a thread is a whole number below `MOST_THREADS`
abbrev pub thread_value : Data → Option ℕ
thread_value d = option_and_then (only_if (λ n. nat_lt n MOST_THREADS)) (whole_number d)

-- what a slot or a root is to hold is an id, or null for nothing
abbrev pub target_value : Data → Option (Option ℕ)
target_value null = Some None
target_value d = option_map Some (id_value d)

-- a name is a text that may be a name
abbrev pub name_value : Data → Option (List ℕ)
name_value d = option_and_then (only_if is_name) (as_str d)

-- ---- steps that may be refused

infixl 10 ◌>>=◌
abbrev pub ◌>>=◌ : {A B : Type 0} → Result A Refusal → (A → Result B Refusal) → Result B Refusal
(Ok x) >>= f = f x
(Err r) >>= f = Err r

-- the value that is there, if it is good
abbrev pub good_value : {A : Type 0} → FieldName → Option A → Result A Refusal
good_value f None = Err (BadField f)
good_value f (Some a) = Ok a

abbrev pub needed_value : {A : Type 0} → FieldName → (Data → Option A) → Option Data → Result A Refusal
needed_value f value None = Err (MissingField f)
needed_value f value (Some d) = good_value f (value d)

-- a field that must be there
abbrev pub needed_field : {A : Type 0} → FieldName → (Data → Option A) → Data → Result A Refusal
needed_field f value d = needed_value f value (get (field_text f) d)

abbrev pub value_or_zero : FieldName → (Data → Option ℕ) → Option Data → Result ℕ Refusal
value_or_zero f value None = Ok 0
value_or_zero f value (Some d) = good_value f (value d)

-- a number in a field that may be missing, and is 0 then
abbrev pub field_or_zero : FieldName → (Data → Option ℕ) → Data → Result ℕ Refusal
field_or_zero f value d = value_or_zero f value (get (field_text f) d)

-- the answer is what the definition gives, unless memory ran out
abbrev pub Gives : {A : Type 0} → Result A Stop → Result A Refusal → Type 0
Gives (Ok a) given = given ≡ Ok a
Gives (Err (Refused r)) given = given ≡ Err r
Gives (Err OutOfMemory) given = ⊤

-- ---- operations that are made of the values of their fields

-- of one value
abbrev pub made_of : {A : Type 0} → (A → Event) → Result A Refusal → Result Event Refusal
made_of make value = value >>= (λ a. Ok (make a))

-- of two, of which the first is tested first
abbrev pub made_of_two : {A B : Type 0} → (A → B → Event) → Result A Refusal → Result B Refusal → Result Event Refusal
made_of_two make first second = first >>= (λ a. made_of (make a) second)

-- of a slot, which is named by the id of its object and by its number, and of a value
abbrev pub made_of_slot : {A : Type 0} → (ℕ → ℕ → A → Event) → Data → Result A Refusal → Result Event Refusal
made_of_slot make d value = needed_field AtField id_value d >>= (λ at. made_of_two (make at) (needed_field SlotField count_value d) value)

-- ---- the eleven operations, each with its fields in the order in which they are tested

unfoldable pub alloc_in : Data → Result Event Refusal
alloc_in d = do
  id ← needed_field IdField id_value d
  kind ← needed_field TypeField name_value d
  slots ← field_or_zero SlotsField count_value d
  thread ← field_or_zero ThreadField thread_value d
  Ok (Alloc id kind slots thread)

unfoldable pub store_in : Data → Result Event Refusal
store_in d = made_of_slot Store d (needed_field ToField target_value d)

unfoldable pub set_weak_in : Data → Result Event Refusal
set_weak_in d = made_of_slot SetWeak d (needed_field WeakField as_bool d)

unfoldable pub root_in : Data → Result Event Refusal
root_in d = made_of_two Root (needed_field NameField name_value d) (needed_field ToField target_value d)

unfoldable pub dead_in : Data → Result Event Refusal
dead_in d = made_of AssertDead (needed_field IdField id_value d)

unfoldable pub start_in : Data → Result Event Refusal
start_in d = made_of StartRegion (field_or_zero ThreadField thread_value d)

unfoldable pub all_dead_in : Data → Result Event Refusal
all_dead_in d = made_of AssertAllDead (field_or_zero ThreadField thread_value d)

unfoldable pub instances_in : Data → Result Event Refusal
instances_in d = made_of_two AssertInstances (needed_field TypeField name_value d) (needed_field LimitField count_value d)

unfoldable pub unshared_in : Data → Result Event Refusal
unshared_in d = made_of AssertUnshared (needed_field IdField id_value d)

unfoldable pub owned_in : Data → Result Event Refusal
owned_in d = made_of_two AssertOwnedBy (needed_field OwnerField id_value d) (needed_field OwneeField id_value d)

-- the operation of this name, from its fields
unfoldable pub operation : List ℕ → Data → Result Event Refusal
operation op d =
    if bytes_eq op (codes "alloc") then alloc_in d
    else (if bytes_eq op (codes "store") then store_in d
    else (if bytes_eq op (codes "set-weak") then set_weak_in d
    else (if bytes_eq op (codes "root") then root_in d
    else (if bytes_eq op (codes "assert-dead") then dead_in d
    else (if bytes_eq op (codes "start-region") then start_in d
    else (if bytes_eq op (codes "assert-alldead") then all_dead_in d
    else (if bytes_eq op (codes "assert-instances") then instances_in d
    else (if bytes_eq op (codes "assert-unshared") then unshared_in d
    else (if bytes_eq op (codes "assert-ownedby") then owned_in d
    else (if bytes_eq op (codes "collect") then Ok Collect
    else Err UnknownOp))))))))))

-- an object's operation is named by its field `op`; fields that the operation does not name are ignored
unfoldable pub event_in : Data → Result Event Refusal
event_in (object members) = do
  op ← needed_field OpField as_str (object members)
  operation op (object members)
event_in null = Err NotObject
event_in (boolean b) = Err NotObject
event_in (number n) = Err NotObject
event_in (string s) = Err NotObject
event_in (array ds) = Err NotObject

-- ---- a line

-- a space, a tab or a carriage return
abbrev pub is_blank : ℕ → Bool
is_blank b = b == 32 || b == 9 || b == 13

-- the JSON value (RFC 8259) of a whole line, which must be UTF-8
abbrev pub json_of : List ℕ → Option Data
json_of line = if is_utf8 line then read line else None

abbrev pub event_of_json : Option Data → Result Event Refusal
event_of_json None = Err NotJson
event_of_json (Some d) = event_in d

abbrev pub item_from : Result Event Refusal → Item
item_from (Ok e) = event e
item_from (Err r) = refused r

-- what a line is, without its newline
unfoldable pub item_of_line : List ℕ → Item
item_of_line line = if list_all is_blank line then blank else item_from (event_of_json (json_of line))
