-- A line whose members are read one after another.
use Rattle.std.proofs.Common.{◌≡◌, ◌↔◌, ℕ, codes, ◌-◌, ◌<◌, ◌≤◌, List, [], ◌∷◌, length, Option, Some, None, Ok, IsTrue, option_and_then, refl, sym, ap, ◌∙◌, arith}
use Rattle.json.specs.Token.{Token}
use Rattle.json.specs.Lex.{tokens}
use Rattle.json.specs.Json.{read_key, value}
use Rattle.json.proofs.Grammar.{read_key-shorter}
use Rattle.serde_json.specs.Data.{Data, object, string, Members, no_members, put}
use Rattle.serde_json.specs.Find.{as_str}
use Rattle.serde_json.specs.Read.{read}
use Rattle.heap_base.specs.Names.{is_name}
use Rattle.serde_json.proofs.Views.{get_member-put_other}
use Rattle.graph_meaning.specs.declared.refusal.FieldName.{FieldName}
use Rattle.graph_meaning.specs.declared.event.Event.TheVariants.{Alloc, Store}
use Rattle.trace_reader.specs.Meaning.{alloc_in, count_value, event_in, field_text, id_value, name_value, only_if, operation, store_in, target_value, thread_value}
use Rattle.trace_reader.specs.Skips.{member_depth, IsMemberValue}
use Rattle.trace_reader.specs.Usual.{EndsBehind, Makes}
use Rattle.trace_reader.proofs.ObjectLemmas.{member_passed, members_passed, object_read}

-- ---- members more

-- a member: its key, its value, and the tokens behind it
abbrev pub IsMember : List ℕ → Data → List Token → List Token → Type 0
IsMember k d ts r = (s : List Token) × (read_key ts ≡ Some (Some k, s)) × IsMemberValue s d r × (length r < length s)

pub member_made : (found : Members) (k : List ℕ) (d : Data) (all : Members) (ts r : List Token) → IsMember k d ts r → Makes (put k d found) r all → Makes found ts all
member_made found k d all ts r (s, key, is, less) rest = λ n enough.
    let lesser = read_key-shorter ts (Some k) s key in
    member_passed (value member_depth) found n k ts s r d (omega (arith, enough)) key is ∙ rest (n - 1) (omega (arith, enough))

-- the operation and three fields
pub four_made : (k₁ k₂ k₃ k₄ : List ℕ) (d₁ d₂ d₃ d₄ : Data) (all : Members) (ts r₁ r₂ r₃ r₄ : List Token) → IsMember k₁ d₁ ts r₁ → IsMember k₂ d₂ r₁ r₂ → IsMember k₃ d₃ r₂ r₃ → IsMember k₄ d₄ r₃ r₄
    → Makes (put k₄ d₄ (put k₃ d₃ (put k₂ d₂ (put k₁ d₁ no_members)))) r₄ all → Makes no_members ts all
four_made k₁ k₂ k₃ k₄ d₁ d₂ d₃ d₄ all ts r₁ r₂ r₃ r₄ one two three four rest =
    let first = put k₁ d₁ no_members in
    let second = put k₂ d₂ first in
    let third = put k₃ d₃ second in
    member_made no_members k₁ d₁ all ts r₁ one (member_made first k₂ d₂ all r₁ r₂ two (member_made second k₃ d₃ all r₂ r₃ three (member_made third k₄ d₄ all r₃ r₄ four rest)))

-- ---- the end

pub ended : (ts : List Token) → ts ≡ [] → EndsBehind None ts
ended ts none before closed found = (found, λ n enough. members_passed (value member_depth) found n before [] enough (closed ∙ ap (λ r. Some (None, r)) none), λ f. refl)

pub unnamed_member : (k : List ℕ) (s r rest : List Token) (next : Option (List ℕ)) (d : Data) → IsMemberValue s d r → length r < length s
    → (o : Option FieldName) → ((f : FieldName) → (o ≡ Some f) ↔ (k ≡ field_text f)) → o ≡ None
    → read_key r ≡ Some (next, rest) → EndsBehind next rest → EndsBehind (Some k) s
unnamed_member k s r rest next d is less o spelled none following ends before key found =
    let other : (f : FieldName) → k ≡ field_text f → ⊥ = λ f named. let e : None ≡ Some f = sym none ∙ (spelled f).1 named in cc in
    let behind = ends r following (put k d found) in (
      behind.0,
      member_made found k d behind.0 before r (s, key, is, less) behind.1,
      λ f. behind.2 f ∙ get_member-put_other (field_text f) k d found (λ e. other f (sym e)),
    )

-- ---- the whole text

pub made_text : (text : List ℕ) (rest : List Token) (all : Members) → tokens text ≡ Token.begin_object ∷ rest → Makes no_members rest all → read text ≡ Some (object all)
made_text text rest all begun made =
    let enough : length rest ≤ length rest = omega arith in
    object_read text rest all begun (made (length rest) enough)

-- ---- what is read

pub store_meant : (at slot to : Data) (a s : ℕ) (t : Option ℕ) → id_value at ≡ Some a → count_value slot ≡ Some s → target_value to ≡ Some t
    → event_in (object (put (codes "to") to (put (codes "slot") slot (put (codes "at") at (put (codes "op") (string (codes "store")) no_members))))) ≡ Ok (Store a s t)
unfolding event_in operation store_in
store_meant at slot to a s t is_at is_slot is_to = rw (is_at, is_slot, is_to) refl

-- an alloc without a thread is of thread 0
pub alloc_meant : (id kind slots : Data) (i s : ℕ) (k : List ℕ) → id_value id ≡ Some i → name_value kind ≡ Some k → count_value slots ≡ Some s
    → event_in (object (put (codes "slots") slots (put (codes "type") kind (put (codes "id") id (put (codes "op") (string (codes "alloc")) no_members))))) ≡ Ok (Alloc i k s 0)
unfolding event_in operation alloc_in
alloc_meant id kind slots i s k is_id is_kind is_slots = rw (is_id, is_kind, is_slots) refl

pub thread_alloc_meant : (id kind slots thread : Data) (i s t : ℕ) (k : List ℕ) → id_value id ≡ Some i → name_value kind ≡ Some k → count_value slots ≡ Some s → thread_value thread ≡ Some t
    → event_in (object (put (codes "thread") thread
    (put (codes "slots") slots (put (codes "type") kind (put (codes "id") id (put (codes "op") (string (codes "alloc")) no_members)))))) ≡ Ok (Alloc i k s t)
unfolding event_in operation alloc_in
thread_alloc_meant id kind slots thread i s t k is_id is_kind is_slots is_thread = rw (is_id, is_kind, is_slots, is_thread) refl

pub name_meant : (kind : Data) (text : List ℕ) → as_str kind ≡ Some text → IsTrue (is_name text) → name_value kind ≡ Some text
name_meant kind text is legal = ap (option_and_then (only_if is_name)) is ∙ rw legal refl
