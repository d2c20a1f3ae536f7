-- Laws of assertions: what is said by cell is what is said by id, and limits by number are limits by name.
use Rattle.std.specs.Prelude.{◌≡◌, ℕ, ◌<◌, ◌↔◌, List, length, map, position, false, Option, None, Some, option_and_then, slice_get, slice_index_or, slice_set}
use Rattle.std.specs.List.{IsDistinct}
use Rattle.std.specs.BTreeMap.{insert_entry, is_at}
use Rattle.std.specs.Map.{lookup}
use Rattle.std.specs.Str.{bytes_eq}
use Rattle.graph_meaning.specs.declared.roles.OwnerRole.TheVariants.{NotOwned, OwnerCell}
use Rattle.graph_meaning.specs.Assertions.{is_owner, is_ownee}
use Rattle.graph_meaning.specs.Heap.{Heap, name_cmp}
use Rattle.graph_meaning.specs.Laws.{RefersToLive, IsOrdered}
use Rattle.graph_meaning.specs.Reach.{has_id}
use Rattle.graph_meaning.specs.Roles.{RoleTable, owner_in}
use Rattle.graph_meaning.specs.Step.{with_kind}
use Rattle.object_table.specs.Placed.{PlacedTable, IsPlaced, id_in}
use Rattle.assert_registry.specs.Assertions.{Assertions, AreOfSeenTypes, limit_of, owner_of, with_room}
use Rattle.assert_registry.specs.ByCell.{AreRolesBy, IsRoleBy, holds_one_of, owner_at, live_owners}

-- Each type has the limit by its number that it has by its name.
abbrev pub LimitsAgree : List (List ℕ) → List (List ℕ × ℕ) → List (Option ℕ) → Type 0
LimitsAgree kinds named numbered =
    (kind : List ℕ) → lookup (is_at (name_cmp kind)) named ≡ option_and_then (limit_of numbered) (position (bytes_eq kind) kinds)

-- The heap has these assertions.
pub record HasAssertions (h : Heap) (a : Assertions) : Type 0 where
  pub dead : h.dead ≡ a.dead
  pub unshared : h.unshared ≡ a.unshared
  pub owners : h.owners ≡ a.owners
  pub limits : LimitsAgree h.table.kinds h.limits a.limits

-- ---- by cell

-- The heap has this table, and the roles say by cell and by number of a type what is asserted in it; the owners' cells
-- stand in the order of the owners' ids. What the heap refers to is live, and its parts are in order.
pub record StandFor (p : PlacedTable) (r : RoleTable) (h : Heap) : Type 0 where
  pub refers : RefersToLive h
  pub ordered : IsOrdered h
  pub table : h.table ≡ p.table
  pub dead : (cell : ℕ) → slice_index_or r.dead cell false ≡ holds_one_of p h.dead cell
  pub unshared : (cell : ℕ) → slice_index_or r.unshared cell false ≡ holds_one_of p h.unshared cell
  pub ownees : (cell : ℕ) → IsRoleBy p (owner_at p h.owners cell) (owner_in r cell)
  pub owners : map (id_in p) r.owners ≡ map Some (live_owners p.table h.owners)
  pub limits : (kind : ℕ) (name : List ℕ) → slice_get p.table.kinds kind ≡ Some name → slice_index_or r.limits kind None ≡ lookup (is_at (name_cmp name)) h.limits

-- The roles that a registry gives stand for every heap in order with its assertions and this table.
abbrev pub RolesStandForHeap : Type 0
RolesStandForHeap =
    (h : Heap) (a : Assertions) (p : PlacedTable) (r : RoleTable) → RefersToLive h → IsOrdered h → HasAssertions h a → h.table ≡ p.table →
    IsDistinct bytes_eq p.table.kinds → AreRolesBy a p r → StandFor p r h

-- The roles say of the object in a cell what the heap says of it by its id.
pub record SayOfHeap (h : Heap) (p : PlacedTable) (r : RoleTable) : Type 0 where
  pub dead : (cell id : ℕ) → id_in p cell ≡ Some id → slice_index_or r.dead cell false ≡ has_id h.dead id
  pub unshared : (cell id : ℕ) → id_in p cell ≡ Some id → slice_index_or r.unshared cell false ≡ has_id h.unshared id
  pub owners : (cell id : ℕ) → id_in p cell ≡ Some id → has_id r.owners cell ≡ is_owner h id
  pub ownees : (cell id : ℕ) → id_in p cell ≡ Some id → (owner_in r cell ≡ NotOwned) ↔ (is_ownee h id ≡ false)
  pub owns : (cell id owner other : ℕ) → id_in p cell ≡ Some id → id_in p owner ≡ Some other → (owner_in r cell ≡ OwnerCell owner) ↔ (owner_of h.owners id ≡ Some other)

-- Roles that stand for a heap say of the object in a cell what the heap says of it by its id.
abbrev pub RolesSayOfHeap : Type 0
RolesSayOfHeap = (h : Heap) (p : PlacedTable) (r : RoleTable) → IsPlaced p → StandFor p r h → SayOfHeap h p r

-- ---- by number

-- A type that was just seen has no limit.
abbrev pub NewTypeHasNoLimit : Type 0
NewTypeHasNoLimit =
    (kinds : List (List ℕ)) (named : List (List ℕ × ℕ)) (numbered : List (Option ℕ)) (kind : List ℕ) → AreOfSeenTypes numbered kinds →
    LimitsAgree kinds named numbered → LimitsAgree (with_kind kinds kind) named numbered

-- More room changes no limit.
abbrev pub RoomChangesNoLimit : Type 0
RoomChangesNoLimit = (limits : List (Option ℕ)) (kinds kind : ℕ) → limit_of (with_room limits kinds) kind ≡ limit_of limits kind

-- The limit of a type is set by its number as it is set by its name.
abbrev pub LimitIsSet : Type 0
LimitIsSet =
    (kinds : List (List ℕ)) (named : List (List ℕ × ℕ)) (numbered : List (Option ℕ)) (kind : List ℕ) (number limit : ℕ) →
    position (bytes_eq kind) kinds ≡ Some number → number < length numbered → LimitsAgree kinds named numbered →
    LimitsAgree kinds (insert_entry name_cmp named kind limit) (slice_set numbered number (Some limit))
