-- What one operation of a trace does to a heap: a new heap, or the first refusal whose condition holds. A collection
-- is none of these steps: it follows the rules of the audit, and Collecting says what it finds and leaves.
use Rattle.std.specs.Prelude.{ℕ, ◌+◌, ◌==◌, List, [], ◌∷◌, ◌++◌, length, map, replicate, fold, drop, Bool, ◌&&◌, not, nat_le, nat_lt, if◌then◌else◌}
use Rattle.std.specs.Prelude.{Option, None, Some, is_some, Result, Ok, Err, slice_set, slice_index_or}
use Rattle.std.specs.Option.{option_map_or}
use Rattle.std.specs.Ordering.{nat_cmp}
use Rattle.std.specs.Map.{lookup, remove_entry}
use Rattle.std.specs.BTreeMap.{insert_entry, is_at}
use Rattle.std.specs.BTreeSet.{insert_key}
use Rattle.heap_base.specs.declared.limits.TheConstants.{MOST_KINDS, MOST_REGIONS}
use Rattle.graph_meaning.specs.declared.event.Event.{Event}
use Rattle.graph_meaning.specs.declared.event.Event.TheVariants.{Alloc, Store, Root, AssertDead, StartRegion, AssertAllDead, AssertInstances, AssertUnshared, AssertOwnedBy, SetWeak, Collect}
use Rattle.graph_meaning.specs.declared.refusal.Refusal.{Refusal}
use Rattle.graph_meaning.specs.declared.refusal.Refusal.TheVariants.{IdNotRising, TooManyObjects, TooManySlots, NotLive, BadSlot, TooManyRoots, TooManyTypes, TooDeep, NoRegion, SelfOwned}
use Rattle.graph_meaning.specs.Heap.{Slot, Object, Table, Heap, empty_slot, name_cmp, object_at, is_live, slot_count, is_seen, regions_of}

-- the first of two refusals, if there is one
abbrev pub first_refusal : Option Refusal → Option Refusal → Option Refusal
first_refusal None second = second
first_refusal (Some r) second = Some r

-- a refusal where its condition holds
abbrev pub refusal_where : Bool → Refusal → Option Refusal
refusal_where condition r = if condition then Some r else None

-- ---- why an operation is refused, in the order in which the reasons are tried

-- the id names no live object
abbrev pub not_live : Table → ℕ → Option Refusal
not_live t id = refusal_where (not (is_live t id)) (NotLive id)

-- as many types as there may be were seen, and this one is new
abbrev pub kind_refusal : Table → List ℕ → Option Refusal
kind_refusal t kind = refusal_where (not (is_seen t.kinds kind) && nat_le MOST_KINDS (length t.kinds)) TooManyTypes

unfoldable pub alloc_refusal : Table → ℕ → List ℕ → ℕ → Option Refusal
alloc_refusal t id kind slots =
    first_refusal (refusal_where (nat_le id t.greatest) (IdNotRising id))
    (first_refusal (refusal_where (nat_le t.most.objects (length t.objects)) TooManyObjects)
    (first_refusal (refusal_where (nat_lt t.most.slots (slot_count t + slots)) TooManySlots)
    (kind_refusal t kind)))

-- what a slot or a root is to hold names no live object
abbrev pub target_refusal : Table → Option ℕ → Option Refusal
target_refusal t None = None
target_refusal t (Some id) = not_live t id

-- how many slots an object has
abbrev pub slots_of : Table → ℕ → ℕ
slots_of t id = option_map_or (λ o. length o.slots) (object_at t.objects id) 0

-- the object isn't live, or has no slot of this number
abbrev pub slot_refusal : Table → ℕ → ℕ → Option Refusal
slot_refusal t at slot = first_refusal (not_live t at) (refusal_where (nat_le (slots_of t at) slot) (BadSlot slot))

unfoldable pub store_refusal : Table → ℕ → ℕ → Option ℕ → Option Refusal
store_refusal t at slot to = first_refusal (slot_refusal t at slot) (target_refusal t to)

-- whether a root has this name
abbrev pub is_root : Table → List ℕ → Bool
is_root t name = is_some (lookup (is_at (name_cmp name)) t.roots)

-- taking a root away is never refused
unfoldable pub root_refusal : Table → List ℕ → Option ℕ → Option Refusal
root_refusal t name None = None
root_refusal t name (Some id) =
    first_refusal (not_live t id) (refusal_where (not (is_root t name) && nat_le t.most.roots (length t.roots)) TooManyRoots)

-- ---- what an operation leaves

-- a new type name is put last
abbrev pub with_kind : List (List ℕ) → List ℕ → List (List ℕ)
with_kind kinds kind = if is_seen kinds kind then kinds else kinds ++ kind ∷ []

-- the object is added with empty slots, none weak
unfoldable pub with_object : Table → ℕ → List ℕ → ℕ → Table
with_object t id kind slots =
    record { objects = t.objects ++ record { id = id; kind = kind; slots = replicate slots empty_slot } ∷ []; roots = t.roots; greatest = id; kinds = with_kind t.kinds kind; most = t.most }

-- the object with a change to that slot, if it is the one that is meant
abbrev pub with_slot : ℕ → ℕ → (Slot → Slot) → Object → Object
with_slot at slot change o =
    if o.id == at then record o { slots = slice_set o.slots slot (change (slice_index_or o.slots slot empty_slot)) } else o

-- the table with a change to that slot of that object
unfoldable pub with_changed_slot : Table → ℕ → ℕ → (Slot → Slot) → Table
with_changed_slot t at slot change = record t { objects = map (with_slot at slot change) t.objects }

-- the slot holds this from now on, weak or not as before
abbrev pub slot_holding : Option ℕ → Slot → Slot
slot_holding to slot = record slot { held = to }

-- the slot is weak or not from now on, and holds what it held
abbrev pub slot_made_weak : Bool → Slot → Slot
slot_made_weak weak slot = record slot { weak = weak }

-- the name holds the object, or is taken away
unfoldable pub with_root : Table → List ℕ → Option ℕ → Table
with_root t name None = record t { roots = remove_entry (is_at (name_cmp name)) t.roots }
with_root t name (Some id) = record t { roots = insert_entry name_cmp t.roots name id }

-- the id is in every open region of the thread
abbrev pub with_member : List (List (List ℕ)) → ℕ → ℕ → List (List (List ℕ))
with_member regions thread id = slice_set regions thread (map (λ r. r ++ id ∷ []) (regions_of regions thread))

-- ---- one operation

-- the heap, unless there is a refusal
abbrev pub heap_unless : Option Refusal → Heap → Result Heap Refusal
heap_unless None h = Ok h
heap_unless (Some r) h = Err r

unfoldable pub step : Heap → Event → Result Heap Refusal
step h (Alloc id kind slots thread) =
    heap_unless (alloc_refusal h.table id kind slots) (record h { table = with_object h.table id kind slots; regions = with_member h.regions thread id })
step h (Store at slot to) =
    heap_unless (store_refusal h.table at slot to) (record h { table = with_changed_slot h.table at slot (slot_holding to) })
step h (SetWeak at slot weak) =
    heap_unless (slot_refusal h.table at slot) (record h { table = with_changed_slot h.table at slot (slot_made_weak weak) })
step h (Root name to) =
    heap_unless (root_refusal h.table name to) (record h { table = with_root h.table name to })
step h (AssertDead id) =
    heap_unless (not_live h.table id) (record h { dead = insert_key nat_cmp h.dead id })
step h (StartRegion thread) =
    heap_unless (refusal_where (nat_le MOST_REGIONS (length (regions_of h.regions thread))) (TooDeep thread))
    (record h { regions = slice_set h.regions thread ([] ∷ regions_of h.regions thread) })
step h (AssertAllDead thread) =
    heap_unless (refusal_where (length (regions_of h.regions thread) == 0) (NoRegion thread))
    (record h {
      regions = slice_set h.regions thread (drop 1 (regions_of h.regions thread));
      dead = fold (insert_key nat_cmp) h.dead (slice_index_or (regions_of h.regions thread) 0 []);
    })
step h (AssertInstances kind limit) =
    heap_unless (kind_refusal h.table kind)
    (record h { table = record h.table { kinds = with_kind h.table.kinds kind }; limits = insert_entry name_cmp h.limits kind limit })
step h (AssertUnshared id) =
    heap_unless (not_live h.table id) (record h { unshared = insert_key nat_cmp h.unshared id })
step h (AssertOwnedBy owner ownee) =
    heap_unless (first_refusal (not_live h.table owner) (first_refusal (not_live h.table ownee) (refusal_where (owner == ownee) (SelfOwned owner))))
    (record h { owners = insert_entry nat_cmp h.owners ownee owner })
step h Collect = Ok h
