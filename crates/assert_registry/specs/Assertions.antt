-- The assertions of a trace on objects and types, as a registry holds them.
use Rattle.std.specs.Prelude.{◌≢◌, ℕ, ◌-◌, ◌<◌, List, [], ◌++◌, length, filter, replicate, All, Option, None, IsSome, slice_index_or}
use Rattle.std.specs.BTreeMap.{is_at}
use Rattle.std.specs.List.Sorted.{IsStrictlySortedBy}
use Rattle.std.specs.Map.{keys_of, lookup}
use Rattle.std.specs.Ordering.{nat_cmp}
use Rattle.graph_meaning.specs.Heap.{Table, is_live}

-- The ids asserted dead and those asserted unshared, each by id rising; for each type, at the place of its number, its
-- limit, if it has one, as far as there is room; and the owners by assertion, as pairs of an ownee and its owner, by the
-- ownee's id.
pub record Assertions : Type 0 where
  pub dead : List ℕ
  pub unshared : List ℕ
  pub limits : List (Option ℕ)
  pub owners : List (ℕ × ℕ)

abbrev pub no_assertions : Assertions
no_assertions = record { dead = []; unshared = []; limits = []; owners = [] }

-- for how many types there is room for a limit
abbrev pub kind_room : Assertions → ℕ
kind_room a = length a.limits

-- the limit of the type with this number, if it has one
abbrev pub limit_of : List (Option ℕ) → ℕ → Option ℕ
limit_of limits kind = slice_index_or limits kind None

-- the owner of an object, if some owner was asserted of it
abbrev pub owner_of : List (ℕ × ℕ) → ℕ → Option ℕ
owner_of owners id = lookup (is_at (nat_cmp id)) owners

-- the limits, with room for those of so many types at the least
abbrev pub with_room : List (Option ℕ) → ℕ → List (Option ℕ)
with_room limits kinds = limits ++ replicate (kinds - length limits) None

-- each type that has a limit was seen
abbrev pub AreOfSeenTypes : List (Option ℕ) → List (List ℕ) → Type 0
AreOfSeenTypes limits kinds = (kind : ℕ) → IsSome (limit_of limits kind) → kind < length kinds

-- what is asserted of live objects and of types; the owner of a live object stays its owner, though it be freed
abbrev pub live_part : Table → Assertions → Assertions
live_part t a = record a {
  dead = filter (is_live t) a.dead;
  unshared = filter (is_live t) a.unshared;
  owners = filter (λ o. is_live t o.0) a.owners;
}

-- Ids rise, each stands once, and no object is its own owner.
pub record AreConsistent (a : Assertions) : Type 0 where
  pub dead : IsStrictlySortedBy nat_cmp a.dead
  pub unshared : IsStrictlySortedBy nat_cmp a.unshared
  pub owners : IsStrictlySortedBy nat_cmp (keys_of a.owners)
  pub others : All (λ o. o.1 ≢ o.0) a.owners
