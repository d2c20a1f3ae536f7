-- The three phases of a trace: what each asks, and what its jobs gain together.
use Rattle.std.specs.Prelude.{◌≡◌, ℕ, ◌+◌, ◌*◌, ◌%◌, ◌<◌, ◌≤◌, List, [], ◌∷◌, ◌++◌, length, filter, map, replicate, slice_index_or, slice_set, false, not, ◌&&◌, IsTrue}
use Rattle.std.specs.List.{All, flat_map}
use Rattle.steal_pool.specs.declared.task.Task.{Task}
use Rattle.heap_base.specs.declared.limits.TheConstants.{MOST_WORKERS}
use Rattle.heap_base.specs.Counting.{AsOften}
use Rattle.graph_meaning.specs.Reach.{has_id}
use Rattle.graph_meaning.specs.Roles.{RoleTable}
use Rattle.header_rule.specs.declared.mark.Mark.TheVariants.{Found, MetByRoots}
use Rattle.steal_pool.specs.declared.crew.Crew.{Crew}
use Rattle.steal_pool.specs.FirstLists.{FirstLists}
use Rattle.steal_pool.specs.Runs.{workers_of, most_tasks, AreReady, ShareFit, HaveRoom, HaveTurns, TurnsLast, Workload, Run}
use Rattle.steal_pool.specs.Jobs.{AllFit}
use Rattle.steal_pool.specs.Runs as Runs
use Rattle.scan_job.specs.declared.mode.Mode.{Mode}
use Rattle.scan_job.specs.declared.mode.Mode.TheVariants.{Owner, TakeUp, Root}
use Rattle.scan_job.specs.declared.shared.ScanShared.{ScanShared}
use Rattle.scan_job.specs.Graphs.{StoppedGraph, is_border, owners, all_targets, is_under_owners, is_found_from, is_reached_by_roots}
use Rattle.scan_job.specs.Fit.{no_owners}
use Rattle.scan_job.specs.Gains.{Gain, GainsOf, lists_mark}
use Rattle.scan_job.specs.Jobs.{graph_in, shared_meaning, scan_meaning}
use Rattle.scan_job.specs.Scans.{AreAmong, task_at}
use Rattle.scan_job.specs.Shared.{SharedHeap, shared_behind}
use Rattle.scan_job.specs.States.{ScanState, NoneSpent}

abbrev pub cells_in : SharedHeap → ℕ
cells_in s = length s.table.cells

-- What each phase asks of the jobs and the first tasks, whoever runs them: there are 1 to 16 jobs; every job is ready and
-- none is spent; and there is a list of first tasks for each job, with room.
pub record CanBeginPhase (s : SharedHeap) (js : List ScanState) (first : FirstLists) : Type 0 where
  pub some : 0 < length js
  pub few : length js ≤ MOST_WORKERS
  pub ready : AreReady shared_meaning s js
  pub left : NoneSpent js
  pub lists : length first.lists ≡ length js
  pub list_room : cells_in s ≤ first.room

-- What each phase asks where a crew runs the jobs: every job is ready and none is spent; there is a job and a list of first tasks for each worker; and lists and crew have room.
pub record CanScan (s : ScanShared) (js : List ScanState) (crew : Crew ScanState) (first : FirstLists) : Type 0 where
  pub ready : AreReady scan_meaning s js
  pub left : NoneSpent js
  pub jobs : length js ≡ workers_of crew
  pub lists : length first.lists ≡ workers_of crew
  pub list_room : cells_in (shared_behind s) ≤ first.room
  pub room : 2 * cells_in (shared_behind s) < Runs.room_of crew

-- what all jobs hold, in the order of the jobs
abbrev pub all_held : List ScanState → List ℕ
all_held js = flat_map (λ (j : ScanState). j.held) js

abbrev pub AreIn : Mode → List ScanState → Type 0
AreIn mode js = All (λ j. j.mode ≡ mode) js

-- The cells of this list are under owners, and no owners.
abbrev pub AreUnderOwners : StoppedGraph → List ℕ → Type 0
AreUnderOwners g xs = (x : ℕ) → IsTrue (has_id xs x) → IsTrue (not (g.is_owner x)) × IsTrue (is_under_owners g x)

-- the job as it begins a phase
abbrev pub starting_in : Mode → ScanState → ScanState
starting_in mode j = record j { mode = mode; held = [] }

-- What a run asks, where each worker has room for so many tasks: there is a list of first tasks for each job; the jobs are
-- ready and have the same fit tasks; the first tasks are fit; and there are room and turns for all that may be put.
pub record CanRunJobs (s : SharedHeap) (load : Workload ScanState) (room : ℕ) : Type 0 where
  pub lists : length load.first ≡ length load.jobs
  pub ready : AreReady shared_meaning s load.jobs
  pub same_fit : ShareFit shared_meaning s (Runs.fit_tasks shared_meaning s load.jobs) load.jobs
  pub fit : All (AllFit (Runs.fit_tasks shared_meaning s load.jobs)) load.first
  pub have_room : HaveRoom shared_meaning room load.jobs load.first
  pub turns : HaveTurns shared_meaning (most_tasks shared_meaning load.jobs load.first) load.jobs

-- What a run of this workload leaves, whoever ran it.
pub record HasRunJobs (s : SharedHeap) (load : Workload ScanState) (ks : List ScanState) : Type 0 where
  pub ran : Run shared_meaning s load ks
  pub ready : AreReady shared_meaning s ks
  pub turns : TurnsLast shared_meaning (most_tasks shared_meaning load.jobs load.first) load.jobs ks

-- ---- first tasks

-- the lists after the task was put last in the list of this worker
abbrev pub put_last : List (List Task) → ℕ → Task → List (List Task)
put_last fs worker t = slice_set fs worker (slice_index_or fs worker [] ++ t ∷ [])

-- the lists after these tasks, numbered from k on, were put last each in the list of the worker of its number modulo the
-- number of workers
abbrev pub deal : ℕ → ℕ → List (List Task) → List Task → List (List Task)
deal workers k fs [] = fs
deal workers k fs (t ∷ ts) = deal workers (k + 1) (put_last fs (k % workers) t) ts

-- a list for each worker: task number k stands in that of the worker k modulo the number of workers
abbrev pub task_lists : ℕ → List Task → List (List Task)
task_lists workers ts = deal workers 0 (replicate workers []) ts

-- the first tasks of the owner phase
abbrev pub owner_firsts : RoleTable → List Task
owner_firsts r = map (λ o. task_at o o) r.owners

-- those of take-up
abbrev pub held_firsts : List ScanState → List Task
held_firsts js = map (task_at 0) (all_held js)

-- those of the root phase, where the first job won these of what the roots name
abbrev pub root_firsts : StoppedGraph → List ℕ → List Task
root_firsts g won = map (task_at 0) (no_owners g won)

-- The lists are those of the root phase, where the first job won some of what the roots name.
pub record BeginsAtRoots (g : StoppedGraph) (workers : ℕ) (fs : List (List Task)) : Type 0 where
  pub won : List ℕ
  pub among : AreAmong won g.roots
  pub lists : fs ≡ task_lists workers (root_firsts g won)

-- ---- what the jobs gain together

-- the scans from the owners
-- adds: what is met is what the slots of the owners lead to, and those of the wins that are no border objects
-- wins: each win is under owners
-- held: what is held is the wins that are ownees and no owners
-- found: whatever is marked found is found by its owner
-- marked: an ownee in a slot of its owner is marked found
-- unmet: nothing is marked as met by roots
pub record OwnerGains (g : StoppedGraph) (a : Gain) : Type 0 where
  pub adds : AsOften a.adds (all_targets g (owners g) ++ all_targets g (filter (λ x. not (is_border g x)) a.wins))
  pub wins : (x : ℕ) → IsTrue (has_id a.wins x) → IsTrue (is_under_owners g x)
  pub held : AsOften a.held (filter (λ x. g.is_ownee x && not (g.is_owner x)) a.wins)
  pub found : (e : ℕ) → IsTrue (lists_mark Found e a.marks) → (o : ℕ) × IsTrue (g.owns o e) × IsTrue (is_found_from g o e)
  pub marked : (o e : ℕ) → IsTrue (g.owns o e) → IsTrue (has_id (g.targets o) e) → IsTrue (lists_mark Found e a.marks)
  pub unmet : (e : ℕ) → lists_mark MetByRoots e a.marks ≡ false

-- the scans from what was held
-- adds: what is met is what the slots of what was held lead to, and those of the wins that are no owners
-- wins: each win is under owners
pub record TakeUpGains (g : StoppedGraph) (held : List ℕ) (a : Gain) : Type 0 where
  pub adds : AsOften a.adds (all_targets g held ++ all_targets g (no_owners g a.wins))
  pub wins : (x : ℕ) → IsTrue (has_id a.wins x) → IsTrue (is_under_owners g x)
  pub none_held : a.held ≡ []
  pub no_marks : a.marks ≡ []

-- the scans from the roots
-- adds: what is met is what the roots name, and what the slots of the wins that are no owners lead to
-- wins: each win is reached by a root
-- marks: the ownees that are met are marked as met by roots, each as often as it is met, and no other mark is set
pub record RootGains (g : StoppedGraph) (a : Gain) : Type 0 where
  pub adds : AsOften a.adds (g.roots ++ all_targets g (no_owners g a.wins))
  pub wins : (x : ℕ) → IsTrue (has_id a.wins x) → IsTrue (is_reached_by_roots g x)
  pub none_held : a.held ≡ []
  pub marks : AsOften a.marks (map (λ e. (e, MetByRoots)) (filter g.is_ownee a.adds))

-- ---- a phase, whoever runs it

-- The mode of a phase's scans, and what its jobs gain together.
pub record Phase : Type 1 where
  pub mode : Mode
  pub gains : StoppedGraph → Gain → Type 0

abbrev pub from_owners : Phase
from_owners = record { mode = Owner; gains = OwnerGains }

-- where these cells are held
abbrev pub from_held : List ℕ → Phase
from_held held = record { mode = TakeUp; gains = λ g. TakeUpGains g held }

abbrev pub from_roots : Phase
from_roots = record { mode = Root; gains = RootGains }

-- The jobs js went through the phase and became ks, none of them spent.
pub record IsDone (s : SharedHeap) (phase : Phase) (js ks : List ScanState) : Type 0 where
  pub gains : GainsOf (graph_in s) (phase.gains (graph_in s)) js ks
  pub modes : AreIn phase.mode ks
  pub ready : AreReady shared_meaning s ks
  pub left : NoneSpent ks

-- The jobs js have begun the phase with this workload: it can be run, and whatever run does it, the phase is done
-- where no job is spent afterwards.
pub record HasBegun (s : SharedHeap) (phase : Phase) (js : List ScanState) (load : Workload ScanState) : Type 0 where
  pub many : length load.jobs ≡ length js
  pub can_run : (room : ℕ) → 2 * cells_in s < room → CanRunJobs s load room
  pub done : (ks : List ScanState) → HasRunJobs s load ks → NoneSpent ks → IsDone s phase js ks
