-- The run of a phase whose jobs have just begun it: what it needs and leaves.
use Rattle.std.proofs.Common.{◌≡◌, ℕ, ◌*◌, ◌<◌, ◌≤◌, List, length, map, sym, ap, ◌∙◌, subst, arith}
use Rattle.std.proofs.Math.Nat.{mul-le-mul_left}
use Rattle.std.proofs.lemmas.List.{length-map}
use Rattle.steal_pool.specs.declared.task.Task.{Task}
use Rattle.steal_pool.specs.declared.crew.Crew.{Crew}
use Rattle.steal_pool.specs.FirstLists.{FirstLists}
use Rattle.steal_pool.specs.Jobs.{AllFit}
use Rattle.steal_pool.specs.Runs.{Workload, Run}
use Rattle.scan_job.specs.declared.mode.Mode.{Mode}
use Rattle.scan_job.specs.declared.mode.Mode.TheVariants.{Owner, TakeUp}
use Rattle.scan_job.specs.Shared.{SharedHeap, shared_behind}
use Rattle.scan_job.specs.declared.shared.ScanShared.{ScanShared}
use Rattle.scan_job.specs.Fit.{fit_tasks}
use Rattle.scan_job.specs.Gains.{Gain, GainsOf}
use Rattle.scan_job.specs.Graphs.{StoppedGraph}
use Rattle.scan_job.specs.Jobs.{graph_in, shared_meaning}
use Rattle.scan_job.specs.Phases.{cells_in, CanBeginPhase, CanScan, AreIn, all_held, AreUnderOwners, starting_in, CanRunJobs, HasBegun, task_lists, owner_firsts, held_firsts, from_owners, from_held}
use Rattle.scan_job.specs.Scans.{task_at}
use Rattle.scan_job.specs.States.{ScanState, NoneSpent}
use Rattle.scan_job.proofs.Gaining.{run-modes, owners-fit, owner-phase, held-fit, take_up-phase}
use Rattle.scan_job.proofs.OwnerCells.{few-owners}
use Rattle.scan_job.proofs.Starting.{IsStart, first-ready, begun-ready, begun-modes, can-run}

-- at least as many, where there is a worker
pub le-times : (n c : ℕ) → 0 < n → c ≤ n * c
le-times n c some = let one : 1 ≤ n = omega arith in let m = mul-le-mul_left c one in omega arith

-- Jobs that have begun a phase, and the lists of its first tasks.
pub record Begun (s : SharedHeap) (mode : Mode) (js : List ScanState) (ts : List Task) : Type 0 where
  pub start : IsStart s mode (length js) (map (starting_in mode) js) ts
  pub load : Workload ScanState
  pub are_begun : load.jobs ≡ map (starting_in mode) js
  pub lists : load.first ≡ task_lists (length js) ts

module _ (s : SharedHeap) (mode : Mode) (js : List ScanState) (ts : List Task) (p : Begun s mode js ts) where
  pub begun-many : length p.load.jobs ≡ length js
  begun-many = ap length p.are_begun ∙ length-map js (starting_in mode)

  pub begun-run : (room : ℕ) → 2 * cells_in s < room → CanRunJobs s p.load room
  begun-run room wide =
      subst (λ zs. CanRunJobs s (record { jobs = zs; first = p.load.first }) room) (sym p.are_begun) (can-run s mode (length js) (map (starting_in mode) js) ts p.load.first p.start p.lists room wide)

  modes-after : (ks : List ScanState) → Run shared_meaning s p.load ks → NoneSpent ks → AreIn mode ks
  modes-after ks run left =
      run-modes s mode p.load.first (map (starting_in mode) js) ks (let a = p.start.jobs in let b = p.start.some in omega arith) p.start.modes
      (subst (λ zs. Run shared_meaning s (record { jobs = zs; first = p.load.first }) ks) p.are_begun run) left

  -- what the run gains makes the phase done
  pub has-begun : (P : StoppedGraph → Gain → Type 0)
      → ((ks : List ScanState) → Run shared_meaning s (record { jobs = map (starting_in mode) js; first = p.load.first }) ks → NoneSpent ks → GainsOf (graph_in s) (P (graph_in s)) js ks)
      → HasBegun s (record { mode = mode; gains = P }) js p.load
  has-begun P gained = record {
    many = begun-many;
    can_run = begun-run;
    done = λ ks ran left. record {
      gains = gained ks (subst (λ zs. Run shared_meaning s (record { jobs = zs; first = p.load.first }) ks) p.are_begun ran.ran) left;
      modes = modes-after ks ran.ran left;
      ready = ran.ready;
      left = left;
    };
  }

module _ (s : SharedHeap) (js : List ScanState) (first : FirstLists) (can : CanBeginPhase s js first) where
  -- ---- what the jobs are ready for

  starts : (mode : Mode) (ts : List Task) → length ts ≤ length js * cells_in s → AllFit (fit_tasks (graph_in s) mode) ts → IsStart s mode (length js) (map (starting_in mode) js) ts
  starts mode ts few fit = record {
    ready = begun-ready s mode js can.ready;
    modes = begun-modes s mode js;
    jobs = length-map js (starting_in mode);
    some = can.some;
    few_jobs = can.few;
    few = few;
    fit = fit;
  }

  pub owner-start : IsStart s Owner (length js) (map (starting_in Owner) js) (owner_firsts s.roles)
  owner-start =
      let a = length-map s.roles.owners (λ o. task_at o o) in
      let b = few-owners s.table s.roles (first-ready s js can.some can.ready).1.roles in
      let c = le-times (length js) (cells_in s) can.some in
      starts Owner (owner_firsts s.roles) (omega arith) (owners-fit s js can.some can.ready)

  pub take_up-start : AreUnderOwners (graph_in s) (all_held js) → length (all_held js) ≤ length js * cells_in s → IsStart s TakeUp (length js) (map (starting_in TakeUp) js) (held_firsts js)
  take_up-start under few =
      let a = length-map (all_held js) (task_at 0) in
      starts TakeUp (held_firsts js) (omega arith) (held-fit s js can.some can.ready under)

  -- ---- what whatever run gains

  pub owner-begun : (p : Begun s Owner js (owner_firsts s.roles)) → HasBegun s from_owners js p.load
  owner-begun p =
      has-begun s Owner js (owner_firsts s.roles) p from_owners.gains (λ ks run left. owner-phase s js can.some can.ready ks p.load.first (length js) can.some p.lists run left)

  pub take_up-begun : (p : Begun s TakeUp js (held_firsts js)) → HasBegun s (from_held (all_held js)) js p.load
  take_up-begun p =
      has-begun s TakeUp js (held_firsts js) p (from_held (all_held js)).gains (λ ks run left. take_up-phase s js can.some can.ready ks p.load.first (length js) can.some p.lists run left)

-- ---- where a crew runs the jobs

pub can-begin : (s : ScanShared) (js : List ScanState) (crew : Crew ScanState) (first : FirstLists) → CanScan s js crew first → CanBeginPhase (shared_behind s) js first
can-begin s js crew first can =
    let jobs = can.jobs in
    let some = crew.some in
    let few = crew.few in
    record {
      some = omega arith;
      few = omega arith;
      ready = can.ready;
      left = can.left;
      lists = can.lists ∙ sym can.jobs;
      list_room = can.list_room;
    }
