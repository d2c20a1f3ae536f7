-- What an owner finds, by cells.
use Rattle.std.specs.Prelude.{ℕ, List, Bool, ◌||◌}
use Rattle.graph_meaning.specs.Heap.{targets}
use Rattle.graph_meaning.specs.Reach.{Graph, has_id, reached_nodes}
use Rattle.graph_meaning.specs.Assertions.{open_graph}
use Rattle.graph_meaning.specs.Roles.{RoleTable, has_owner, owner_in, id_at}
use Rattle.object_table.specs.Placed.{PlacedTable}
use Rattle.path_cert.specs.Cells.{by_id}

-- the object in a cell is an owner or an ownee
abbrev pub is_border_cell : RoleTable → ℕ → Bool
is_border_cell r cell = has_id r.owners cell || has_owner (owner_in r cell)

-- the objects and their edges; a path goes on from no border object
abbrev pub border_graph : PlacedTable → RoleTable → Graph
border_graph p r = open_graph p.table (by_id p (is_border_cell r))

-- what a path of one or more edges from the object in a cell leads to that goes on from no border object
abbrev pub found_ids : PlacedTable → RoleTable → ℕ → List ℕ
found_ids p r owner = reached_nodes (border_graph p r) (targets p.table (id_at p.cells owner))

-- whether the owner in one cell finds the object in another
abbrev pub finds_in : PlacedTable → RoleTable → ℕ → ℕ → Bool
finds_in p r owner ownee = has_id (found_ids p r owner) (id_at p.cells ownee)
