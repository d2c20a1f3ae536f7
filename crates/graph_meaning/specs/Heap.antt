-- What a heap is, as a trace describes it.
use Rattle.std.specs.Prelude.{ℕ, List, [], ◌==◌, Bool, false, if◌then◌else◌, Option, None, is_some, find, map, length, replicate, slice_index_or, sum_by}
use Rattle.std.specs.List.{list_any, filter_map, enumerate_from}
use Rattle.std.specs.Option.{option_map, option_map_or}
use Rattle.std.specs.Ordering.{nat_cmp}
use Rattle.std.specs.declared.cmp.Ordering.{Ordering}
use Rattle.std.specs.Cmp.Lexicographic.{slice_cmp}
use Rattle.std.specs.Str.{bytes_eq}
use Rattle.heap_base.specs.declared.limits.Limits.{Limits}
use Rattle.heap_base.specs.declared.limits.TheConstants.{MOST_THREADS}

-- A slot: what it holds, nothing or the id of an object, and whether it is weak.
pub record Slot : Type 0 where
  pub held : Option ℕ
  pub weak : Bool

-- An object: its id, the name of its type, and its slots.
pub record Object : Type 0 where
  pub id : ℕ
  pub kind : List ℕ
  pub slots : List Slot

-- The objects by id rising; the roots by the bytes of their names rising, each with the id of the object that it
-- holds; the greatest id that was ever allocated, 0 before the first; the type names that were seen, in the
-- order in which they first came; and the most that there may be.
pub record Table : Type 0 where
  pub objects : List Object
  pub roots : List (List ℕ × ℕ)
  pub greatest : ℕ
  pub kinds : List (List ℕ)
  pub most : Limits

-- A heap: its table; the ids asserted dead and those asserted unshared, each by id rising; for each thread, at the
-- place of its number, its open regions, the innermost first, each the ids of its objects; the limits of types, by
-- the bytes of their names; and the owners by assertion, as pairs of an ownee and its owner, by the ownee's id.
pub record Heap : Type 0 where
  pub table : Table
  pub dead : List ℕ
  pub unshared : List ℕ
  pub regions : List (List (List ℕ))
  pub limits : List (List ℕ × ℕ)
  pub owners : List (ℕ × ℕ)

-- names in the order of their bytes
abbrev pub name_cmp : List ℕ → List ℕ → Ordering
name_cmp = slice_cmp nat_cmp

abbrev pub empty_slot : Slot
empty_slot = record { held = None; weak = false }

-- the empty table under these limits
abbrev pub empty_table : Limits → Table
empty_table most = record { objects = []; roots = []; greatest = 0; kinds = []; most = most }

-- no region of any thread is open
abbrev pub no_regions : List (List (List ℕ))
no_regions = replicate MOST_THREADS []

-- the heap at the beginning of a trace, under these limits
abbrev pub empty_heap : Limits → Heap
empty_heap most = record { table = empty_table most; dead = []; unshared = []; regions = no_regions; limits = []; owners = [] }

-- the object with this id
abbrev pub object_at : List Object → ℕ → Option Object
object_at objects id = find (λ o. o.id == id) objects

abbrev pub is_live : Table → ℕ → Bool
is_live t id = is_some (object_at t.objects id)

abbrev pub ids : Table → List ℕ
ids t = map (λ o. o.id) t.objects

-- the name of an object's type
abbrev pub kind_at : Table → ℕ → List ℕ
kind_at t id = option_map_or (λ o. o.kind) (object_at t.objects id) []

-- how many slots all objects have together
abbrev pub slot_count : Table → ℕ
slot_count t = sum_by (λ o. length o.slots) t.objects

-- whether a type name was seen
abbrev pub is_seen : List (List ℕ) → List ℕ → Bool
is_seen kinds kind = list_any (bytes_eq kind) kinds

-- the open regions of a thread
abbrev pub regions_of : List (List (List ℕ)) → ℕ → List (List ℕ)
regions_of regions thread = slice_index_or regions thread []

-- ---- edges

-- What a slot leads to. This is the one place that says which slots are edges: those that aren't weak and hold an object.
abbrev pub edge_of : Slot → Option ℕ
edge_of slot = if slot.weak then None else slot.held

-- the edge by a slot with its number, if it is one
abbrev pub numbered_edge : ℕ × Slot → Option (ℕ × ℕ)
numbered_edge slot = option_map (λ y. (slot.0, y)) (edge_of slot.1)

-- The edges by these slots, in order: each the number of its slot, from 0, and the id of the object that it leads to.
abbrev pub edges_of : List Slot → List (ℕ × ℕ)
edges_of slots = filter_map numbered_edge (enumerate_from 0 slots)

-- the edges of the object x
abbrev pub edges : Table → ℕ → List (ℕ × ℕ)
edges t x = option_map_or (λ o. edges_of o.slots) (object_at t.objects x) []

-- what the edges of an object lead to, in the order of its slots
abbrev pub targets : Table → ℕ → List ℕ
targets t x = map (λ e. e.1) (edges t x)

-- what an edge from slot k of the object x leads to
abbrev pub edge_at : Table → ℕ → ℕ → Option ℕ
edge_at t x k = option_map_or (λ o. edge_of (slice_index_or o.slots k empty_slot)) (object_at t.objects x) None
