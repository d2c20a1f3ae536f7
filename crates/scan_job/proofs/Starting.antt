-- How a phase begins, and what its run asks.
use Rattle.std.proofs.Common.{◌≡◌, ℕ, zero, suc, ◌+◌, ◌*◌, ◌<◌, ◌≤◌, List, [], ◌∷◌, length, map, sym, refl, ap, ◌∙◌, subst, arith}
use Rattle.std.specs.List.{All, Contains}
use Rattle.std.proofs.Math.Nat.{mul-le-mul_left}
use Rattle.steal_pool.specs.declared.task.Task.{Task}
use Rattle.heap_base.specs.declared.limits.TheConstants.{MOST_OBJECTS, MOST_WORKERS}
use Rattle.heap_base.specs.Counting.{total}
use Rattle.steal_pool.specs.Jobs.{AllFit}
use Rattle.steal_pool.specs.Runs.{most_tasks, all_first, AreReady, HaveRoom}
use Rattle.steal_pool.specs.Runs as Runs
use Rattle.scan_job.specs.declared.mode.Mode.{Mode}
use Rattle.scan_job.specs.Shared.{SharedHeap}
use Rattle.scan_job.specs.Fit.{fit_tasks}
use Rattle.scan_job.specs.Graphs.{IsWhole}
use Rattle.scan_job.specs.Jobs.{graph_in, IsReadyFor, shared_meaning}
use Rattle.scan_job.specs.Phases.{cells_in, AreIn, starting_in, CanRunJobs, task_lists}
use Rattle.scan_job.specs.States.{ScanState, wins_left}
use Rattle.scan_job.proofs.Dealing.{length-dealt, dealt-all, dealt-length, dealt-short}
use Rattle.scan_job.proofs.Placing.{is-whole}
use Rattle.scan_job.proofs.Scanned.{fit_tasks-in}

pub all-map : {X Y : Type 0} (f : X → Y) (P : X → Type 0) (Q : Y → Type 0) → ((x : X) → P x → Q (f x)) → (xs : List X) → All P xs → All Q (map f xs)
all-map f P Q step [] all k d within = absurd (omega arith)
all-map f P Q step (x ∷ xs) all zero d within = step x (all 0 x (omega arith))
all-map f P Q step (x ∷ xs) all (suc k) d within =
    all-map f P Q step xs (λ i e w. all (suc i) e (omega arith)) k d (omega arith)

pub all-cons : {X : Type 0} (P : X → Type 0) (x : X) (xs : List X) → P x → All P xs → All P (x ∷ xs)
all-cons P x xs p all zero d within = p
all-cons P x xs p all (suc k) d within = all k d (omega arith)

pub all-tail : {X : Type 0} (P : X → Type 0) (x : X) (xs : List X) → All P (x ∷ xs) → All P xs
all-tail P x xs all k d within = all (suc k) d (omega arith)

-- ---- what the readiness of one job says

pub first-ready : (s : SharedHeap) (js : List ScanState) → 0 < length js → AreReady shared_meaning s js → (j : ScanState) × IsReadyFor j s
first-ready s [] some ready = absurd (omega arith)
first-ready s (j ∷ js) some ready = (j, ready 0 j (omega arith))

pub ready-cells : (s : SharedHeap) (js : List ScanState) → AreReady shared_meaning s js → All (λ j. j.cells ≤ cells_in s) js
ready-cells s js ready k d within = let e = (ready k d within).cells in omega arith

module _ (s : SharedHeap) (js : List ScanState) (some : 0 < length js) (ready : AreReady shared_meaning s js) where
  pub few-cells : cells_in s ≤ MOST_OBJECTS
  few-cells = let r = (first-ready s js some ready).1.placed.few in omega arith

  pub graph-whole : IsWhole (graph_in s)
  graph-whole = is-whole s.table s.roles (first-ready s js some ready).1.roles

-- ---- jobs that began a phase

module _ (s : SharedHeap) (mode : Mode) (js : List ScanState) where
  pub begun-ready : AreReady shared_meaning s js → AreReady shared_meaning s (map (starting_in mode) js)
  begun-ready ready =
      all-map (starting_in mode) (λ j. IsReadyFor j s) (λ j. IsReadyFor j s)
      (λ j r. record { pass = r.pass; headers = r.headers; cells = r.cells; kinds = r.kinds; roles = r.roles; placed = r.placed; sound = r.sound })
      js ready

  pub begun-modes : AreIn mode (map (starting_in mode) js)
  begun-modes = all-map (starting_in mode) (λ j. Unit {0}) (λ j. j.mode ≡ mode) (λ j u. refl) js (λ k d within. tt)

-- ---- what a run asks

-- So many jobs of a phase that are ready for these first tasks.
pub record IsStart (s : SharedHeap) (mode : Mode) (n : ℕ) (js : List ScanState) (ts : List Task) : Type 0 where
  pub ready : AreReady shared_meaning s js
  pub modes : AreIn mode js
  pub jobs : length js ≡ n
  pub some : 0 < n
  pub few_jobs : n ≤ MOST_WORKERS
  pub few : length ts ≤ n * cells_in s
  pub fit : AllFit (fit_tasks (graph_in s) mode) ts

rooms : (s : SharedHeap) (js : List ScanState) → AreReady shared_meaning s js → total wins_left js ≤ length js * cells_in s
rooms s [] ready = omega arith
rooms s (j ∷ js) ready =
    let r = rooms s js (λ k d within. ready (suc k) d (omega arith)) in
    let e = (ready 0 j (omega arith)).cells in
    let x : suc (length js) * cells_in s ≡ length js * cells_in s + cells_in s = omega arith in
    omega arith

has-room : (s : SharedHeap) (n : ℕ) (js : List ScanState) (fs : List (List Task)) → length fs ≡ length js → AreReady shared_meaning s js →
    All (λ f. length f ≤ cells_in s) fs → 2 * cells_in s < n → HaveRoom shared_meaning n js fs
has-room s n [] [] e ready short wide = refl
has-room s n [] (f ∷ fs) e ready short wide = absurd (omega arith)
has-room s n (j ∷ js) [] e ready short wide = absurd (omega arith)
has-room s n (j ∷ js) (f ∷ fs) e ready short wide =
    let c = (ready 0 j (omega arith)).cells in
    let l = short 0 f (omega arith) in
    (omega arith, has-room s n js fs (omega arith) (λ k d within. ready (suc k) d (omega arith)) (λ k d within. short (suc k) d (omega arith)) wide)

module _ (s : SharedHeap) (mode : Mode) (n : ℕ) (js : List ScanState) (ts : List Task) (fs : List (List Task)) (start : IsStart s mode n js ts) (lists : fs ≡ task_lists n ts) where
  some : 0 < length js
  some = let a = start.jobs in let b = start.some in omega arith

  most-cells : n * cells_in s ≤ MOST_WORKERS * MOST_OBJECTS
  most-cells =
      let a = few-cells s js some start.ready in
      let b = start.few_jobs in
      let c = mul-le-mul_left n a in
      omega arith

  few-tasks : most_tasks shared_meaning js fs ≤ 2 * (MOST_WORKERS * MOST_OBJECTS)
  few-tasks =
      let a = dealt-length n ts start.some in
      let b = ap (λ (hs : List (List Task)). total length hs) lists in
      let c = rooms s js start.ready in
      let d = ap (λ m. m * cells_in s) start.jobs in
      let e = start.few in
      let f = most-cells in
      omega arith

  pub can-run : (room : ℕ) → 2 * cells_in s < room → CanRunJobs s (record { jobs = js; first = fs }) room
  can-run room wide =
      let fit = fit_tasks-in s mode js some start.modes in
      let many = ap length lists ∙ length-dealt n ts ∙ sym start.jobs in
      record {
        lists = many;
        ready = start.ready;
        same_fit = λ k d within. ap (fit_tasks (graph_in s)) (start.modes k d within) ∙ sym fit;
        fit =
            subst (λ (hs : List (List Task)). All (AllFit (Runs.fit_tasks shared_meaning s js)) hs) (sym lists)
            (subst (λ us. All (AllFit us) (task_lists n ts)) (sym fit) (dealt-all (Contains (fit_tasks (graph_in s) mode)) n ts start.fit));
        have_room =
            has-room s room js fs many start.ready (subst (λ (hs : List (List Task)). All (λ f. length f ≤ cells_in s) hs) (sym lists) (dealt-short n (cells_in s) ts start.some start.few)) wide;
        turns = λ k d within. (let m = few-tasks in omega arith);
      }
