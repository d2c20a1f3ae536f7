-- The fields of an object, beside its members.
use Rattle.std.proofs.Common.{◌≡◌, ◌≢◌, ℕ, ◌⊎◌, ◌↔◌, ◌||◌, List, [], ◌∷◌, slice_get, Bool, true, false, cond, bytes_eq, Option, Some, None, option_map, Result}
use Rattle.std.proofs.Common.{Ok, Err, refl, sym, ap, ◌∙◌, subst, inl, inr}
use Rattle.std.proofs.lemmas.Bool.{both_ways, cases_Bool}
use Rattle.std.proofs.lemmas.Slice.Eq.{bytes_eq-Decides}
use Rattle.std.specs.List.{list_any, position_or_len}
use Rattle.serde_json.specs.Data.{Data, object, Members, no_members, put}
use Rattle.serde_json.specs.Find.{get_member, as_str}
use Rattle.serde_json.proofs.Views.{get_member-put, get_member-put_other}
use Rattle.graph_meaning.specs.declared.refusal.Refusal.{Refusal}
use Rattle.graph_meaning.specs.declared.refusal.FieldName.{FieldName}
use Rattle.graph_meaning.specs.declared.refusal.FieldName.TheVariants.{OpField, IdField, TypeField, SlotsField, ThreadField, AtField, SlotField}
use Rattle.graph_meaning.specs.declared.refusal.FieldName.TheVariants.{ToField, NameField, LimitField, OwnerField, OwneeField, WeakField}
use Rattle.trace_reader.specs.declared.fields.Fields.{Fields}
use Rattle.trace_reader.specs.declared.object.FieldValue.{FieldValue}
use Rattle.trace_reader.specs.Meaning.{field_text, needed_value, ◌>>=◌, event_in, operation, alloc_in, store_in, set_weak_in, root_in, dead_in}
use Rattle.trace_reader.specs.Meaning.{start_in, all_dead_in, instances_in, unshared_in, owned_in}
use Rattle.trace_reader.specs.Objects.{value_data, no_fields, value_of, HasFieldsOf, all_fields, place_of, put_if_some, members_of}

-- ---- keys

-- among all fields, the one at the place of a field is this field
placed : (f : FieldName) → slice_get all_fields (place_of f) ≡ Some f
placed OpField = refl
placed _ = refl

same_field : (f g : FieldName) → field_text f ≡ field_text g → f ≡ g
same_field f g e =
    let place : List ℕ → ℕ = λ key. position_or_len (λ other. bytes_eq key (field_text other)) all_fields in
    let found : Some f ≡ Some g = sym (placed f) ∙ ap (λ key. slice_get all_fields (place key)) e ∙ placed g in
    cc

pub spelled : (g : FieldName) (key : List ℕ) → key ≡ field_text g → (field : FieldName) → (Some g ≡ Some field) ↔ (key ≡ field_text field)
spelled g key is field = (
  λ e. let same : g ≡ field = cc in is ∙ ap field_text same,
  λ other. ap Some (same_field g field (sym is ∙ other)),
)

same_or_apart : (f g : FieldName) → (f ≡ g) ⊎ (f ≡ g → ⊥)
same_or_apart f g =
    elim (cases_Bool (bytes_eq (field_text f) (field_text g))) as (λ _. (f ≡ g) ⊎ (f ≡ g → ⊥)) [
      | inl equal ↦ inl (same_field f g ((bytes_eq-Decides (field_text f) (field_text g)).0 equal))
      | inr unequal ↦ inr (λ e. both_ways _ unequal ((bytes_eq-Decides (field_text f) (field_text g)).1 (ap field_text e)))
    ]

-- ---- one member more

no_value : (f : FieldName) → option_map value_data (value_of no_fields f) ≡ get_member (field_text f) no_members
no_value OpField = refl
no_value _ = refl

pub no_fields_of : (fields : Fields) → fields ≡ no_fields → HasFieldsOf fields no_members
no_fields_of fields is = λ f. ap (λ (x : Fields). option_map value_data (value_of x f)) is ∙ no_value f

-- a member whose key is a field's
module _ (fields new : Fields) (members : Members) (has : HasFieldsOf fields members) (g : FieldName) (v : FieldValue)
    (value : value_of new g ≡ Some v) (others : (f : FieldName) → f ≢ g → value_of new f ≡ value_of fields f) where
  field_put : (f : FieldName) → (f ≡ g) ⊎ (f ≡ g → ⊥) → option_map value_data (value_of new f) ≡ get_member (field_text f) (put (field_text g) (value_data v) members)
  field_put f (inl same) =
      let P : FieldName → Type 0 = λ h. option_map value_data (value_of new h) ≡ get_member (field_text h) (put (field_text g) (value_data v) members) in
      subst P (sym same) (ap (option_map value_data) value ∙ sym (get_member-put (field_text g) (value_data v) members))
  field_put f (inr apart) =
      ap (option_map value_data) (others f apart)
      ∙ has f
      ∙ sym (get_member-put_other (field_text f) (field_text g) (value_data v) members (λ e. apart (same_field f g e)))

  pub fields_put : (key : List ℕ) → key ≡ field_text g → HasFieldsOf new (put key (value_data v) members)
  fields_put key named = λ f. field_put f (same_or_apart f g) ∙ ap (λ k. get_member (field_text f) (put k (value_data v) members)) (sym named)

-- a member whose key is no field's
pub fields_kept : (fields : Fields) (members : Members) → HasFieldsOf fields members → (key : List ℕ) (d : Data) → ((f : FieldName) → key ≡ field_text f → ⊥) → HasFieldsOf fields (put key d members)
fields_kept fields members has key d other =
    λ f. has f ∙ sym (get_member-put_other (field_text f) key d members (λ e. other f (sym e)))

-- ---- the object that has these fields alone

cond_same : (b : Bool) (o : Option Data) → cond b o o ≡ o
cond_same true o = refl
cond_same false o = refl

get_member-put_if_some : (o : Option FieldValue) (k : List ℕ) (ms : Members) (b : Bool) →
    get_member k ms ≡ cond b (option_map value_data o) None → get_member k (put_if_some k o ms) ≡ option_map value_data o
get_member-put_if_some None k ms b rest = rest ∙ cond_same b None
get_member-put_if_some (Some v) k ms b rest = get_member-put k (value_data v) ms

get_member-put_if_some_other : (o : Option FieldValue) (k l : List ℕ) (ms : Members) → (k ≡ l → ⊥) → get_member k (put_if_some l o ms) ≡ get_member k ms
get_member-put_if_some_other None k l ms apart = refl
get_member-put_if_some_other (Some v) k l ms apart = get_member-put_other k l (value_data v) ms apart

abbrev is_among : FieldName → List FieldName → Bool
is_among g fields = list_any (λ f. bytes_eq (field_text g) (field_text f)) fields

is_among-all_fields : (g : FieldName) → is_among g all_fields ≡ true
is_among-all_fields OpField = refl
is_among-all_fields _ = refl

module _ (value : FieldName → Option FieldValue) (g : FieldName) where
  one_more : (f : FieldName) (ms : Members) (here later : Bool) → bytes_eq (field_text g) (field_text f) ≡ here
      → get_member (field_text g) ms ≡ cond later (option_map value_data (value g)) None
      → get_member (field_text g) (put_if_some (field_text f) (value f) ms) ≡ cond (here || later) (option_map value_data (value g)) None
  one_more f ms true later is rest =
      let P : FieldName → Type 0 = λ h. get_member (field_text g) (put_if_some (field_text h) (value h) ms) ≡ option_map value_data (value g) in
      subst P (same_field g f ((bytes_eq-Decides (field_text g) (field_text f)).0 is)) (get_member-put_if_some (value g) (field_text g) ms later rest)
  one_more f ms false later is rest =
      get_member-put_if_some_other (value f) (field_text g) (field_text f) ms (λ e. both_ways _ is ((bytes_eq-Decides (field_text g) (field_text f)).1 e)) ∙ rest

  get_member-members_of : (fields : List FieldName) → get_member (field_text g) (members_of value fields) ≡ cond (is_among g fields) (option_map value_data (value g)) None
  unfolding members_of
  get_member-members_of [] = refl
  get_member-members_of (f ∷ fields) = one_more f (members_of value fields) (bytes_eq (field_text g) (field_text f)) (is_among g fields) refl (get_member-members_of fields)

  pub get_member-all_fields : get_member (field_text g) (members_of value all_fields) ≡ option_map value_data (value g)
  get_member-all_fields =
      get_member-members_of all_fields ∙ ap (λ b. cond b (option_map value_data (value g)) None) (is_among-all_fields g)

-- ---- an operation hangs on the fields alone

bind_same : {A B : Type 0} (x : Result A Refusal) (f g : A → Result B Refusal) → ((a : A) → f a ≡ g a) → (x >>= f) ≡ (x >>= g)
bind_same (Ok a) f g same = same a
bind_same (Err r) f g same = refl

module _ (ms ns : Members) (same : (f : FieldName) → get_member (field_text f) ms ≡ get_member (field_text f) ns) where
  operation_same : (op : List ℕ) → operation op (object ms) ≡ operation op (object ns)
  unfolding operation alloc_in store_in set_weak_in root_in dead_in start_in all_dead_in instances_in unshared_in owned_in
  operation_same op =
      rw (same IdField, same TypeField, same SlotsField, same ThreadField, same AtField, same SlotField, same ToField, same WeakField, same NameField)
      (rw (same LimitField, same OwnerField, same OwneeField))

  pub event_same : event_in (object ms) ≡ event_in (object ns)
  unfolding event_in
  event_same =
      ap (λ (o : Option Data). needed_value OpField as_str o >>= (λ op. operation op (object ms))) (same OpField)
      ∙ bind_same (needed_value OpField as_str (get_member (field_text OpField) ns)) (λ op. operation op (object ms)) (λ op. operation op (object ns)) operation_same

pub event_of_fields : (fields : Fields) (members : Members) → HasFieldsOf fields members → event_in (object (members_of (value_of fields) all_fields)) ≡ event_in (object members)
event_of_fields fields members has =
    event_same (members_of (value_of fields) all_fields) members (λ f. get_member-all_fields (value_of fields) f ∙ has f)
