-- The assertions by the cells of a table and by the numbers of its types.
use Rattle.std.specs.Prelude.{◌≡◌, ℕ, List, length, map, filter, Bool, false, Option, None, Some, IsSome, slice_index_or}
use Rattle.std.specs.Map.{keys_of, values_of}
use Rattle.std.specs.Option.{option_and_then, option_map_or}
use Rattle.graph_meaning.specs.declared.roles.OwnerRole.{OwnerRole}
use Rattle.graph_meaning.specs.declared.roles.OwnerRole.TheVariants.{NotOwned, OwnerCell, OwnerGone}
use Rattle.graph_meaning.specs.Heap.{Table, ids, is_live}
use Rattle.graph_meaning.specs.Laws.{AllLive}
use Rattle.graph_meaning.specs.Reach.{has_id}
use Rattle.graph_meaning.specs.Roles.{RoleTable, owner_in}
use Rattle.object_table.specs.Placed.{PlacedTable, id_in}
use Rattle.assert_registry.specs.Assertions.{Assertions, AreOfSeenTypes, limit_of, owner_of}

-- What is asserted dead, asserted unshared or an ownee is live in the table, and types with a limit were seen.
pub record SpeakOfTable (a : Assertions) (t : Table) : Type 0 where
  pub dead : AllLive t a.dead
  pub unshared : AllLive t a.unshared
  pub ownees : AllLive t (keys_of a.owners)
  pub limits : AreOfSeenTypes a.limits t.kinds

-- The roles have an entry for each cell of the table.
pub record HaveCells (p : PlacedTable) (r : RoleTable) : Type 0 where
  pub dead : length r.dead ≡ length p.cells
  pub unshared : length r.unshared ≡ length p.cells
  pub ownees : length r.ownees ≡ length p.cells

-- whether a cell holds one of these objects
abbrev pub holds_one_of : PlacedTable → List ℕ → ℕ → Bool
holds_one_of p ids cell = option_map_or (has_id ids) (id_in p cell) false

-- the owner of the object in a cell, by these pairs of an ownee and its owner
abbrev pub owner_at : PlacedTable → List (ℕ × ℕ) → ℕ → Option ℕ
owner_at p owners cell = option_and_then (owner_of owners) (id_in p cell)

-- The role of an object that has this owner, or none: the owner's cell, or its id where it is not live.
abbrev pub IsRoleBy : PlacedTable → Option ℕ → OwnerRole → Type 0
IsRoleBy p owner NotOwned = owner ≡ None
IsRoleBy p owner (OwnerCell cell) = IsSome owner × (id_in p cell ≡ owner)
IsRoleBy p owner (OwnerGone id) = (owner ≡ Some id) × (is_live p.table id ≡ false)

-- the owners that are live, by id, each once
abbrev pub live_owners : Table → List (ℕ × ℕ) → List ℕ
live_owners t owners = filter (has_id (values_of owners)) (ids t)

-- Roles that say of each cell what is asserted of its object, and of each type its limit; the owners' cells stand in the
-- order of the owners' ids.
pub record AreRolesBy (a : Assertions) (p : PlacedTable) (r : RoleTable) : Type 0 where
  pub dead : (cell : ℕ) → slice_index_or r.dead cell false ≡ holds_one_of p a.dead cell
  pub unshared : (cell : ℕ) → slice_index_or r.unshared cell false ≡ holds_one_of p a.unshared cell
  pub ownees : (cell : ℕ) → IsRoleBy p (owner_at p a.owners cell) (owner_in r cell)
  pub limits : (kind : ℕ) → slice_index_or r.limits kind None ≡ limit_of a.limits kind
  pub owners : map (id_in p) r.owners ≡ map Some (live_owners p.table a.owners)
