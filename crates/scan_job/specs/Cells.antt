-- The graph that a table and the roles of its objects stand for, by cells.
use Rattle.std.specs.Prelude.{ℕ, ◌==◌, List, length, filter, position, Bool, false, Option, option_and_then, is_some, unwrap_or}
use Rattle.std.specs.List.{filter_map, range_with_len}
use Rattle.std.specs.Str.{bytes_eq}
use Rattle.graph_meaning.specs.declared.roles.OwnerRole.{OwnerRole}
use Rattle.graph_meaning.specs.declared.roles.OwnerRole.TheVariants.{NotOwned, OwnerCell, OwnerGone}
use Rattle.graph_meaning.specs.Heap.{Slot, edge_of}
use Rattle.graph_meaning.specs.Reach.{has_id}
use Rattle.graph_meaning.specs.Roles.{RoleTable, owner_in, has_owner}
use Rattle.object_table.specs.Placed.{PlacedTable, id_in, cell_of, object_in, slots_in}
use Rattle.scan_job.specs.Graphs.{StoppedGraph}

-- the cell of what a slot leads to, if it is an edge
abbrev pub target_of : PlacedTable → Slot → Option ℕ
target_of p slot = option_and_then (cell_of p) (edge_of slot)

-- the cells of what these slots lead to, in order
abbrev pub targets_of : PlacedTable → List Slot → List ℕ
targets_of p slots = filter_map (target_of p) slots

-- the number of the type of the object in a cell
abbrev pub kind_in : PlacedTable → ℕ → Option ℕ
kind_in p cell = option_and_then (λ o. position (bytes_eq o.kind) p.table.kinds) (object_in p cell)

-- the role is that of an ownee whose owner is in this cell
abbrev pub is_owned_by : ℕ → OwnerRole → Bool
is_owned_by cell NotOwned = false
is_owned_by cell (OwnerCell o) = o == cell
is_owned_by cell (OwnerGone id) = false

-- the nodes are the cells that hold an object
abbrev pub graph_of : PlacedTable → RoleTable → StoppedGraph
graph_of p r = record {
  nodes = filter (λ cell. is_some (id_in p cell)) (range_with_len 0 (length p.cells));
  targets = λ cell. targets_of p (slots_in p cell);
  roots = filter_map (λ root. cell_of p root.1) p.table.roots;
  kind = λ cell. unwrap_or (kind_in p cell) 0;
  is_owner = has_id r.owners;
  is_ownee = λ cell. has_owner (owner_in r cell);
  owns = λ owner cell. is_owned_by owner (owner_in r cell);
}
