-- What each refusal comes to, where the tests before it are decided.
use Rattle.std.proofs.Common.{◌≡◌, ℕ, ◌+◌, ◌<◌, ◌≤◌, List, [], length, position, unwrap_or, is_some, true, false, Option, Some, None, refl, ◌∙◌, ap, arith}
use Rattle.std.specs.Str.{bytes_eq}
use Rattle.std.proofs.lemmas.Bool.Decides.{nat_tests}
use Rattle.std.proofs.lemmas.List.Quantifiers.{position-Some}
use Rattle.object_table.proofs.Positions.{any-position}
use Rattle.heap_base.specs.declared.limits.TheConstants.{MOST_KINDS}
use Rattle.graph_meaning.specs.declared.refusal.Refusal.{Refusal}
use Rattle.graph_meaning.specs.declared.refusal.Refusal.TheVariants.{IdNotRising, TooManyObjects, TooManySlots, NotLive, BadSlot, TooManyRoots, TooManyTypes}
use Rattle.graph_meaning.specs.Heap.{Table, is_live, is_seen, slot_count}
use Rattle.graph_meaning.specs.Step.{first_refusal, alloc_refusal, slot_refusal, store_refusal, root_refusal, kind_refusal, target_refusal, not_live, slots_of, is_root}

-- ---- types

pub kind_full : (t : Table) (kind : List ℕ) → is_seen t.kinds kind ≡ false → MOST_KINDS ≤ length t.kinds → kind_refusal t kind ≡ Some TooManyTypes
kind_full t kind new full = grind (arith, nat_tests)

pub kind_seen : (t : Table) (kind : List ℕ) → is_seen t.kinds kind ≡ true → kind_refusal t kind ≡ None
kind_seen t kind seen = rw seen refl

pub kind_room : (t : Table) (kind : List ℕ) → length t.kinds < MOST_KINDS → kind_refusal t kind ≡ None
kind_room t kind room = grind (arith, nat_tests)

-- a new type that is not refused has room
pub kind_fits : (t : Table) (kind : List ℕ) → kind_refusal t kind ≡ None → is_seen t.kinds kind ≡ false → length t.kinds < MOST_KINDS
kind_fits t kind allowed new = grind (arith, nat_tests)

-- the number of a type that is not refused is below the most
pub kind_number_fits : (t : Table) (kind : List ℕ) → length t.kinds ≤ MOST_KINDS → kind_refusal t kind ≡ None → unwrap_or (position (bytes_eq kind) t.kinds) (length t.kinds) < MOST_KINDS
kind_number_fits t kind few allowed = go (position (bytes_eq kind) t.kinds) refl
  where
    go : (o : Option ℕ) → position (bytes_eq kind) t.kinds ≡ o → unwrap_or o (length t.kinds) < MOST_KINDS
    go None new = kind_fits t kind allowed (any-position (bytes_eq kind) t.kinds ∙ ap is_some new)
    go (Some n) seen = let within = (position-Some (bytes_eq kind) t.kinds n [] seen).0 in omega arith

-- ---- a new object

pub alloc_rising : (t : Table) (id : ℕ) (kind : List ℕ) (slots : ℕ) → id ≤ t.greatest → alloc_refusal t id kind slots ≡ Some (IdNotRising id)
unfolding alloc_refusal
alloc_rising t id kind slots h = grind (arith, nat_tests)

pub alloc_full : (t : Table) (id : ℕ) (kind : List ℕ) (slots : ℕ) → t.greatest < id → t.most.objects ≤ length t.objects → alloc_refusal t id kind slots ≡ Some TooManyObjects
unfolding alloc_refusal
alloc_full t id kind slots above h = grind (arith, nat_tests)

pub alloc_slots : (t : Table) (id : ℕ) (kind : List ℕ) (slots : ℕ) → t.greatest < id → length t.objects < t.most.objects →
    t.most.slots < slot_count t + slots → alloc_refusal t id kind slots ≡ Some TooManySlots
unfolding alloc_refusal
alloc_slots t id kind slots above room h = grind (arith, nat_tests)

pub alloc_kind : (t : Table) (id : ℕ) (kind : List ℕ) (slots : ℕ) → t.greatest < id → length t.objects < t.most.objects →
    slot_count t + slots ≤ t.most.slots → alloc_refusal t id kind slots ≡ kind_refusal t kind
unfolding alloc_refusal
alloc_kind t id kind slots above room h = grind (arith, nat_tests)

-- what holds where an object is not refused
pub record Fits (t : Table) (id : ℕ) (kind : List ℕ) (slots : ℕ) : Type 0 where
  pub above : t.greatest < id
  pub room : length t.objects < t.most.objects
  pub room_for_slots : slot_count t + slots ≤ t.most.slots
  pub allowed_kind : kind_refusal t kind ≡ None

pub alloc_fits : (t : Table) (id : ℕ) (kind : List ℕ) (slots : ℕ) → alloc_refusal t id kind slots ≡ None → Fits t id kind slots
unfolding alloc_refusal
alloc_fits t id kind slots allowed = record {
  above = grind (arith, nat_tests);
  room = grind (arith, nat_tests);
  room_for_slots = grind (arith, nat_tests);
  allowed_kind = grind (arith, nat_tests);
}

-- ---- a slot

pub slot_dead : (t : Table) (at slot : ℕ) → is_live t at ≡ false → slot_refusal t at slot ≡ Some (NotLive at)
slot_dead t at slot dead = rw dead refl

pub slot_bad : (t : Table) (at slot : ℕ) → is_live t at ≡ true → slots_of t at ≤ slot → slot_refusal t at slot ≡ Some (BadSlot slot)
slot_bad t at slot live h = grind (arith, nat_tests)

pub slot_there : (t : Table) (at slot : ℕ) → is_live t at ≡ true → slot < slots_of t at → slot_refusal t at slot ≡ None
slot_there t at slot live h = grind (arith, nat_tests)

-- a slot that is not refused is one that the object has
pub slot_fits : (t : Table) (at slot : ℕ) → slot_refusal t at slot ≡ None → slot < slots_of t at
slot_fits t at slot allowed = grind (arith, nat_tests)

-- a store is refused for its slot, and else for what the slot is to hold
pub store_is : (t : Table) (at slot : ℕ) (to : Option ℕ) → store_refusal t at slot to ≡ first_refusal (slot_refusal t at slot) (target_refusal t to)
unfolding store_refusal
store_is t at slot to = refl

pub store_by_slot : (t : Table) (at slot : ℕ) (to : Option ℕ) (r : Refusal) → slot_refusal t at slot ≡ Some r → store_refusal t at slot to ≡ Some r
store_by_slot t at slot to r refused = store_is t at slot to ∙ ap (λ o. first_refusal o (target_refusal t to)) refused

pub store_by_target : (t : Table) (at slot : ℕ) (to : Option ℕ) (r : Refusal) → slot_refusal t at slot ≡ None → target_refusal t to ≡ Some r → store_refusal t at slot to ≡ Some r
store_by_target t at slot to r there refused = store_is t at slot to ∙ ap (λ o. first_refusal o (target_refusal t to)) there ∙ refused

pub store_allowed : (t : Table) (at slot : ℕ) (to : Option ℕ) → slot_refusal t at slot ≡ None → target_refusal t to ≡ None → store_refusal t at slot to ≡ None
store_allowed t at slot to there target = store_is t at slot to ∙ ap (λ o. first_refusal o (target_refusal t to)) there ∙ target

-- ---- a root

pub root_dead : (t : Table) (name : List ℕ) (id : ℕ) (r : Refusal) → not_live t id ≡ Some r → root_refusal t name (Some id) ≡ Some r
unfolding root_refusal
root_dead t name id r dead = rw dead refl

pub root_full : (t : Table) (name : List ℕ) (id : ℕ) → not_live t id ≡ None → is_root t name ≡ false → t.most.roots ≤ length t.roots → root_refusal t name (Some id) ≡ Some TooManyRoots
unfolding root_refusal
root_full t name id live new full = grind (arith, nat_tests)

pub root_there : (t : Table) (name : List ℕ) (id : ℕ) → not_live t id ≡ None → is_root t name ≡ true → root_refusal t name (Some id) ≡ None
unfolding root_refusal
root_there t name id live there = grind (arith, nat_tests)

pub root_room : (t : Table) (name : List ℕ) (id : ℕ) → not_live t id ≡ None → length t.roots < t.most.roots → root_refusal t name (Some id) ≡ None
unfolding root_refusal
root_room t name id live room = grind (arith, nat_tests)

-- a new root that is not refused has room, and its object is live
pub root_fits : (t : Table) (name : List ℕ) (id : ℕ) → root_refusal t name (Some id) ≡ None → (not_live t id ≡ None) × (is_root t name ≡ false → length t.roots < t.most.roots)
unfolding root_refusal
root_fits t name id allowed = (grind (arith, nat_tests), λ new. grind (arith, nat_tests))

pub root_taken : (t : Table) (name : List ℕ) → root_refusal t name None ≡ None
unfolding root_refusal
root_taken t name = refl
