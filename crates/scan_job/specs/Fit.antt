-- Which tasks are fit for a scan.
use Rattle.std.specs.Prelude.{◌≡◌, ℕ, List, ◌∷◌, filter, map, not, ◌⊎◌, IsTrue}
use Rattle.std.specs.List.{flat_map}
use Rattle.steal_pool.specs.declared.task.Task.{Task}
use Rattle.graph_meaning.specs.Reach.{reached_nodes}
use Rattle.scan_job.specs.declared.mode.Mode.{Mode}
use Rattle.scan_job.specs.declared.mode.Mode.TheVariants.{Owner, TakeUp, Root}
use Rattle.scan_job.specs.Graphs.{StoppedGraph, is_border, owners, all_targets, whole_graph, inner_graph, is_under_owners, is_found_from, is_reached_by_roots}
use Rattle.scan_job.specs.Scans.{task_at}

-- In mode Owner: the task of an owner, with its own cell as the tag, and those of the objects that it finds and that are
-- no border objects. In mode TakeUp: what is under owners and no owner. In mode Root: what a root reaches and is no
-- owner. In these two the tag is 0.
abbrev pub IsFit : StoppedGraph → Mode → Task → Type 0
IsFit g Owner t = IsTrue (g.is_owner t.tag) × ((t.cell ≡ t.tag) ⊎ (IsTrue (not (is_border g t.cell)) × IsTrue (is_found_from g t.tag t.cell)))
IsFit g TakeUp t = (t.tag ≡ 0) × IsTrue (not (g.is_owner t.cell)) × IsTrue (is_under_owners g t.cell)
IsFit g Root t = (t.tag ≡ 0) × IsTrue (not (g.is_owner t.cell)) × IsTrue (is_reached_by_roots g t.cell)

abbrev pub no_owners : StoppedGraph → List ℕ → List ℕ
no_owners g xs = filter (λ x. not (g.is_owner x)) xs

-- the fit tasks with an owner's tag
abbrev pub owner_tasks : StoppedGraph → ℕ → List Task
owner_tasks g o = task_at o o ∷ map (task_at o) (filter (λ x. not (is_border g x)) (reached_nodes (inner_graph g) (g.targets o)))

-- a list of exactly the fit tasks
unfoldable pub fit_tasks : StoppedGraph → Mode → List Task
fit_tasks g Owner = flat_map (owner_tasks g) (owners g)
fit_tasks g TakeUp = map (task_at 0) (no_owners g (reached_nodes (whole_graph g) (all_targets g (owners g))))
fit_tasks g Root = map (task_at 0) (no_owners g (reached_nodes (whole_graph g) g.roots))
