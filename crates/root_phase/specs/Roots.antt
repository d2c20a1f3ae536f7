-- How the first job meets what the roots name.
use Rattle.std.specs.Prelude.{◌≡◌, ℕ, ◌≤◌, List, length, Bool, not, ◌&&◌, take}
use Rattle.std.specs.List.{filter_map}
use Rattle.steal_pool.specs.declared.task.Task.{Task}
use Rattle.object_table.specs.Placed.{PlacedTable, cell_of}
use Rattle.scan_job.specs.Shared.{SharedHeap}
use Rattle.scan_job.specs.Jobs.{graph_in}
use Rattle.scan_job.specs.Phases.{cells_in, task_lists, root_firsts}
use Rattle.scan_job.specs.Scans.{one_meeting, Meets}
use Rattle.scan_job.specs.States.{ScanState}

-- a cell that a root names, and whether the scan goes on from it
pub record RootCell : Type 0 where
  pub cell : ℕ
  pub goes_on : Bool

-- The job j met the cell and became k; the scan goes on from the cell where it was won and is no owner's.
pub record MeetsRoot (s : SharedHeap) (root : RootCell) (j k : ScanState) : Type 0 where
  pub won : Bool
  pub meets : Meets (graph_in s) (one_meeting 0 root.cell won) j k
  pub scanned : root.goes_on ≡ (won && not ((graph_in s).is_owner root.cell))

-- the cells that the first of the roots name
abbrev pub first_roots : PlacedTable → ℕ → List ℕ
first_roots p roots = filter_map (λ root. cell_of p root.1) (take roots p.table.roots)

-- a job, and the lists of first tasks
pub record JobAndLists : Type 0 where
  pub job : ScanState
  pub lists : List (List Task)

-- The job met what the first of the roots name, each once and in order, and those of its wins that are no owners were dealt.
-- It won no more cells than there are.
pub record MeetsRoots (s : SharedHeap) (roots : ℕ) (old new : JobAndLists) : Type 0 where
  pub won : List ℕ
  pub meets : Meets (graph_in s) (record { tag = 0; cells = first_roots s.table roots; won = won }) old.job new.job
  pub few : length won ≤ cells_in s
  pub lists : new.lists ≡ task_lists (length old.lists) (root_firsts (graph_in s) won)
