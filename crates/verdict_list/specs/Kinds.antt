-- The types over their limit, by their numbers.
use Rattle.std.specs.Prelude.{◌≡◌, ◌==◌, ℕ, ◌<◌, List, [], length, All, Bool, true, false, Option, None, Some, IsSome, IfSome, nat_lt, if◌then◌else◌}
use Rattle.std.specs.Prelude.{unwrap_or, slice_get, slice_index, slice_index_or, option_and_then}
use Rattle.std.specs.Option.{option_map_or}
use Rattle.graph_meaning.specs.Collecting.{instances}
use Rattle.graph_meaning.specs.Heap.{Heap}
use Rattle.graph_meaning.specs.Roles.{RoleTable}
use Rattle.object_table.specs.Placed.{PlacedTable, id_in}
use Rattle.verdict_list.specs.Counts.{CountTable}
use Rattle.verdict_list.specs.declared.instances.KindCount.{KindCount}

-- the limit of a type, if it has one
abbrev pub limit_in : RoleTable → ℕ → Option ℕ
limit_in r kind = slice_index_or r.limits kind None

-- the first object past the limit after so many and one more, which is in this cell
abbrev pub first_after : Option ℕ → ℕ → Option ℕ → ℕ → Option ℕ
first_after limit count first cell = if option_map_or (λ l. l == count) limit false then Some cell else first

-- the name of a type
abbrev pub name_of : PlacedTable → ℕ → List ℕ
name_of p kind = slice_index_or p.table.kinds kind []

-- ---- which types are over their limit

-- whether more objects of the type are traced than its limit
abbrev pub is_over_limit : RoleTable → CountTable → ℕ → Bool
is_over_limit r t kind = option_map_or (λ limit. nat_lt limit (slice_index t.instances kind)) (limit_in r kind) false

-- The type was seen, and more of its objects are traced than its limit.
pub record IsOverLimit (p : PlacedTable) (r : RoleTable) (t : CountTable) (kind : ℕ) : Type 0 where
  pub seen : kind < length p.table.kinds
  pub over : is_over_limit r t kind ≡ true

-- a type's name and its limit, as a heap has them
abbrev pub named_limit : PlacedTable → RoleTable → ℕ → List ℕ × ℕ
named_limit p r kind = (name_of p kind, unwrap_or (limit_in r kind) 0)

-- ---- their first objects past the limit

-- For each type with a limit the cell of its first traced object past the limit, by id, and none where there is no such object.
abbrev pub ArePastLimits : PlacedTable → RoleTable → Heap → List (Option ℕ) → Type 0
ArePastLimits p r h places =
    (kind limit : ℕ) → kind < length p.table.kinds → limit_in r kind ≡ Some limit → option_and_then (id_in p) (slice_index_or places kind None) ≡ slice_get (instances h (name_of p kind)) limit

-- ---- counts

-- The count has the limit of its type by these roles, its number by this trace, and its first object from these places.
pub record IsCountedBy (r : RoleTable) (t : CountTable) (places : List (Option ℕ)) (c : KindCount) : Type 0 where
  pub limit : limit_in r c.kind ≡ Some c.limit
  pub found : c.found ≡ slice_index t.instances c.kind
  pub first : c.first ≡ slice_index_or places c.kind None

-- The type was seen, and its first object past the limit is in a cell of the table, if there is one.
pub record IsSeenIn (p : PlacedTable) (c : KindCount) : Type 0 where
  pub seen : c.kind < length p.table.kinds
  pub first : IfSome c.first (λ cell. IsSome (id_in p cell))

-- the name and the limit of a type, as a heap has them
abbrev pub named_count : PlacedTable → KindCount → List ℕ × ℕ
named_count p c = (name_of p c.kind, c.limit)

-- So many objects of the type are traced.
abbrev pub SaysOf : PlacedTable → Heap → KindCount → Type 0
SaysOf p h c = c.found ≡ length (instances h (name_of p c.kind))

-- There is a first object past the limit, and it is in this cell.
abbrev pub HasFirst : PlacedTable → Heap → KindCount → Type 0
HasFirst p h c = (id : ℕ) × (option_and_then (id_in p) c.first ≡ Some id) × (slice_get (instances h (name_of p c.kind)) c.limit ≡ Some id)

-- The counts tell how many objects of each type are traced, and which is the first past the limit where that is asked for.
pub record TellOf (p : PlacedTable) (h : Heap) (asked : Type 0) (counts : List KindCount) : Type 0 where
  pub says : All (SaysOf p h) counts
  pub first : asked → All (HasFirst p h) counts
