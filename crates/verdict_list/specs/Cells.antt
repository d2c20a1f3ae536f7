-- What is said of ownees by the cells that hold them.
use Rattle.std.specs.Prelude.{ℕ, List, map, Bool, false, ◌||◌, is_some, unwrap_or}
use Rattle.graph_meaning.specs.declared.roles.OwnerRole.{OwnerRole}
use Rattle.graph_meaning.specs.declared.roles.OwnerRole.TheVariants.{NotOwned, OwnerCell, OwnerGone}
use Rattle.graph_meaning.specs.Heap.{ids}
use Rattle.graph_meaning.specs.Reach.{has_id}
use Rattle.graph_meaning.specs.Roles.{RoleTable, owner_in}
use Rattle.object_table.specs.Placed.{PlacedTable, cell_of}
use Rattle.path_cert.specs.Finds.{finds_in}
use Rattle.path_cert.specs.Levels.{LevelTable, level_in}

-- the cells of all objects, by the ids of the objects
abbrev pub cells_by_id : PlacedTable → List ℕ
cells_by_id p = map (λ id. unwrap_or (cell_of p id) 0) (ids p.table)

-- under owners, where the levels are those from the owners, or an owner
abbrev pub is_owned_cell : RoleTable → LevelTable → ℕ → Bool
is_owned_cell r under cell = is_some (level_in under cell) || has_id r.owners cell

-- the owner that the role names finds the ownee; an owner that is gone finds nothing
abbrev pub is_found_by : PlacedTable → RoleTable → ℕ → OwnerRole → Bool
is_found_by p r ownee NotOwned = false
is_found_by p r ownee (OwnerCell owner) = finds_in p r owner ownee
is_found_by p r ownee (OwnerGone id) = false

-- the ownee in a cell is found by its owner
abbrev pub is_kept : PlacedTable → RoleTable → ℕ → Bool
is_kept p r ownee = is_found_by p r ownee (owner_in r ownee)
