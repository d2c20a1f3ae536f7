-- Laws of the graph of a table, and of the fit tasks.
use Rattle.std.specs.Prelude.{ℕ, List, ◌∷◌, length, ◌↔◌, IsTrue}
use Rattle.std.specs.List.{Contains}
use Rattle.steal_pool.specs.declared.task.Task.{Task}
use Rattle.graph_meaning.specs.Reach.{HasEdge, IsPath}
use Rattle.graph_meaning.specs.Roles.{RoleTable, AreRolesOf}
use Rattle.object_table.specs.Placed.{PlacedTable}
use Rattle.scan_job.specs.declared.mode.Mode.{Mode}
use Rattle.scan_job.specs.Graphs.{StoppedGraph, IsWhole, whole_graph, inner_graph, is_under_owners, is_found_from}
use Rattle.scan_job.specs.Cells.{graph_of}
use Rattle.scan_job.specs.Fit.{IsFit, fit_tasks}

-- The graph of a table and of roles of it is whole.
abbrev pub TablesAreWhole : Type 0
TablesAreWhole = (p : PlacedTable) (r : RoleTable) → AreRolesOf p.cells (length p.table.kinds) r → IsWhole (graph_of p r)

-- The list of fit tasks holds exactly those that are fit.
abbrev pub FitTasksAreListed : Type 0
FitTasksAreListed = (g : StoppedGraph) → IsWhole g → (mode : Mode) (t : Task) → Contains (fit_tasks g mode) t ↔ IsFit g mode t

-- Found is what a path of one or more edges leads to that goes on from no border object: it leads on from the end z of
-- its first edge.
abbrev pub FoundByPath : Type 0
FoundByPath = (g : StoppedGraph) (o x : ℕ) → IsTrue (is_found_from g o x) ↔ ((z : ℕ) × (steps : List ℕ) × HasEdge (inner_graph g) o z × IsPath (inner_graph g) z steps x)

-- Under owners is what a path of one or more edges leads to from an owner.
abbrev pub UnderOwnersByPath : Type 0
UnderOwnersByPath = (g : StoppedGraph) → IsWhole g → (x : ℕ) → IsTrue (is_under_owners g x) ↔ ((o : ℕ) × (z : ℕ) × (steps : List ℕ) × IsTrue (g.is_owner o) × IsPath (whole_graph g) o (z ∷ steps) x)
