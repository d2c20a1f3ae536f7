-- What the assertions make of the objects and types of a table that stands still, by cell and by number of a type.
use Rattle.std.specs.Prelude.{◌≡◌, ◌≢◌, ◌<◌, ◌↔◌, ℕ, List, [], replicate, length, AllPairs, Bool, true, false, IsTrue, Option, None, IsSome, unwrap_or, slice_index_or}
use Rattle.graph_meaning.specs.declared.roles.Border.{Border}
use Rattle.graph_meaning.specs.declared.roles.OwnerRole.{OwnerRole}
use Rattle.graph_meaning.specs.declared.roles.OwnerRole.TheVariants.{NotOwned, OwnerCell, OwnerGone}
use Rattle.graph_meaning.specs.Reach.{has_id}

-- For each cell whether its object is asserted dead, whether it is asserted unshared, and whose ownee it is; for each
-- type its limit, if it has one; and the cells of the owners, in the order in which they were added.
pub record RoleTable : Type 0 where
  pub dead : List Bool
  pub unshared : List Bool
  pub ownees : List OwnerRole
  pub limits : List (Option ℕ)
  pub owners : List ℕ

-- no role in any of these cells, and no limit of any of these types
abbrev pub no_roles : ℕ → ℕ → RoleTable
no_roles cells kinds = record {
  dead = replicate cells false;
  unshared = replicate cells false;
  ownees = replicate cells NotOwned;
  limits = replicate kinds None;
  owners = [];
}

-- how many cells the roles were made for
abbrev pub cells_of : RoleTable → ℕ
cells_of r = length r.dead

-- how many types the roles were made for
abbrev pub kinds_of : RoleTable → ℕ
kinds_of r = length r.limits

-- the role is that of an ownee, whether its owner is live or gone
abbrev pub has_owner : OwnerRole → Bool
has_owner NotOwned = false
has_owner (OwnerCell owner) = true
has_owner (OwnerGone id) = true

-- whose ownee the object in a cell is
abbrev pub owner_in : RoleTable → ℕ → OwnerRole
owner_in r cell = slice_index_or r.ownees cell NotOwned

-- whether the object in a cell is an owner, and whether it is an ownee
abbrev pub border_in : RoleTable → ℕ → Border
border_in r cell = record { owner = has_id r.owners cell; ownee = has_owner (owner_in r cell) }

-- the id of the object that a cell holds, and 0 where it is empty
abbrev pub id_at : List (Option ℕ) → ℕ → ℕ
id_at cells cell = unwrap_or (slice_index_or cells cell None) 0

-- Roles of a table with these cells and so many types: they were made for as many; each role is on a cell that holds an
-- object; an ownee's owner is in another cell, which holds an object too; and the owners are exactly the cells that
-- some ownee names, by the ids of their objects.
pub record AreRolesOf (cells : List (Option ℕ)) (kinds : ℕ) (r : RoleTable) : Type 0 where
  pub many_cells : cells_of r ≡ length cells
  pub many_kinds : kinds_of r ≡ kinds
  pub on_dead : (cell : ℕ) → IsTrue (slice_index_or r.dead cell false) → IsSome (slice_index_or cells cell None)
  pub on_unshared : (cell : ℕ) → IsTrue (slice_index_or r.unshared cell false) → IsSome (slice_index_or cells cell None)
  pub on_ownees : (cell : ℕ) → owner_in r cell ≢ NotOwned → IsSome (slice_index_or cells cell None)
  pub by_others : (cell owner : ℕ) → owner_in r cell ≡ OwnerCell owner → (owner ≢ cell) × IsSome (slice_index_or cells owner None)
  pub are_owners : (owner : ℕ) → IsTrue (has_id r.owners owner) ↔ ((cell : ℕ) × (owner_in r cell ≡ OwnerCell owner))
  pub rising : AllPairs (λ o p. id_at cells o < id_at cells p) r.owners
