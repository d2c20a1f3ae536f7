-- The run of the root phase: what it needs and leaves.
use Rattle.std.proofs.Common.{◌≡◌, ◌<◌, not, List, [], ◌∷◌, length, get_or, set, map, sym, ap, ◌∙◌, subst, arith, length-set}
use Rattle.std.specs.List.{All, filter_map}
use Rattle.std.proofs.Math.Seq.{take-length}
use Rattle.std.proofs.lemmas.List.{length-map}
use Rattle.graph_meaning.proofs.Membership.{length-filter_le}
use Rattle.steal_pool.specs.FirstLists.{FirstLists}
use Rattle.steal_pool.specs.Runs.{AreReady}
use Rattle.scan_job.specs.declared.mode.Mode.TheVariants.{Root}
use Rattle.scan_job.specs.Shared.{SharedHeap}
use Rattle.object_table.specs.Placed.{cell_of}
use Rattle.scan_job.specs.Fit.{no_owners}
use Rattle.scan_job.specs.Graphs.{StoppedGraph, IsWhole}
use Rattle.scan_job.specs.Jobs.{graph_in, IsReadyFor, shared_meaning}
use Rattle.scan_job.specs.Phases.{cells_in, CanBeginPhase, HasBegun, starting_in, task_lists, root_firsts, BeginsAtRoots, from_roots}
use Rattle.scan_job.specs.Scans.{Meets, task_at}
use Rattle.scan_job.specs.States.{ScanState, IsUnspent, NoneSpent}
use Rattle.scan_job.proofs.Gaining.{run-modes, root_meeting, roots-fit, root-phase}
use Rattle.scan_job.proofs.PhaseRuns.{le-times}
use Rattle.scan_job.proofs.Starting.{IsStart, all-map, all-cons, all-tail, graph-whole, begun-ready, begun-modes, can-run}
use Rattle.root_phase.specs.Roots.{JobAndLists, MeetsRoots}

-- P of all jobs where it is true of the new first one
all-set : {X : Type 0} (P : X → Type 0) (x : X) (xs : List X) → P x → All P xs → All P (set xs 0 x)
all-set P x [] here all = all
all-set P x (y ∷ xs) here all = all-cons P x xs here (all-tail P y xs all)

-- the first of jobs that have begun the phase is ready
pub first-of-begun : (s : SharedHeap) (js begins : List ScanState) (j : ScanState) → 0 < length js → AreReady shared_meaning s js →
    begins ≡ map (starting_in Root) js → j ≡ get_or begins 0 j → IsReadyFor j s
first-of-begun s js begins j some ready are_begun is =
    let l = ap length are_begun ∙ length-map js (starting_in Root) in
    let all = subst (λ zs. AreReady shared_meaning s zs) (sym are_begun) (begun-ready s Root js ready) in
    subst (λ z. IsReadyFor z s) (sym is) (all 0 j (omega arith))

-- and it is not spent where none of them was
pub first-unspent : (js begins : List ScanState) (j : ScanState) → 0 < length js → NoneSpent js → begins ≡ map (starting_in Root) js →
    j ≡ get_or begins 0 j → IsUnspent j
first-unspent js begins j some left are_begun is =
    let l = ap length are_begun ∙ length-map js (starting_in Root) in
    let all = subst NoneSpent (sym are_begun) (all-map (starting_in Root) IsUnspent IsUnspent (λ i u. u) js left) in
    subst IsUnspent (sym is) (all 0 j (omega arith))

-- A phase from the roots, whose first job met them.
pub record RootStart (s : SharedHeap) (js : List ScanState) (first : FirstLists) : Type 0 where
  pub can : CanBeginPhase s js first
  pub begins : List ScanState
  pub are_begun : begins ≡ map (starting_in Root) js
  pub old : JobAndLists
  pub new : JobAndLists
  pub is_first : old.job ≡ get_or begins 0 old.job
  pub workers : length old.lists ≡ length js
  pub met : MeetsRoots s (length s.table.table.roots) old new
  pub ready : IsReadyFor new.job s

module _ (s : SharedHeap) (js : List ScanState) (first : FirstLists) (p : RootStart s js first) where
  abbrev g : StoppedGraph
  g = graph_in s

  whole : IsWhole g
  whole = graph-whole s js p.can.some p.can.ready

  met-roots : Meets g (root_meeting g p.met.won) p.old.job p.new.job
  met-roots =
      subst (λ xs. Meets g (record { tag = 0; cells = filter_map (λ root. cell_of s.table root.1) xs; won = p.met.won }) p.old.job p.new.job) (take-length s.table.table.roots) p.met.meets

  first-begun : p.old.job ≡ get_or (map (starting_in Root) js) 0 p.old.job
  first-begun = p.is_first ∙ ap (λ zs. get_or zs 0 p.old.job) p.are_begun

  lists : p.new.lists ≡ task_lists (length js) (root_firsts g p.met.won)
  lists = p.met.lists ∙ ap (λ n. task_lists n (root_firsts g p.met.won)) p.workers

  abbrev starts : List ScanState
  starts = set (map (starting_in Root) js) 0 p.new.job

  many : length starts ≡ length js
  many = length-set (map (starting_in Root) js) 0 p.new.job ∙ length-map js (starting_in Root)

  start : IsStart s Root (length js) starts (root_firsts g p.met.won)
  start = record {
    ready = all-set (λ j. IsReadyFor j s) p.new.job (map (starting_in Root) js) p.ready (begun-ready s Root js p.can.ready);
    modes = all-set (λ j. j.mode ≡ Root) p.new.job (map (starting_in Root) js) (met-roots.mode ∙ first-mode) (begun-modes s Root js);
    jobs = many;
    some = p.can.some;
    few_jobs = p.can.few;
    few =
        let a = length-map (no_owners g p.met.won) (task_at 0) in
        let b = length-filter_le (λ x. not (g.is_owner x)) p.met.won in
        let c = p.met.few in
        let d = le-times (length js) (cells_in s) p.can.some in
        omega arith;
    fit = roots-fit g whole p.met.won met-roots.among;
  }
    where
      first-mode : p.old.job.mode ≡ Root
      first-mode =
          let l = length-map js (starting_in Root) in
          let a = p.can.some in
          subst (λ j. j.mode ≡ Root) (sym first-begun) (begun-modes s Root js 0 p.old.job (omega arith))

  pub root-first : BeginsAtRoots g (length js) p.new.lists
  root-first = record { won = p.met.won; among = met-roots.among; lists = lists }

  -- ---- what the run needs and leaves

  from-starts : HasBegun s from_roots js (record { jobs = starts; first = p.new.lists })
  from-starts =
      let n = length js in
      record {
        many = many;
        can_run = can-run s Root n starts (root_firsts g p.met.won) p.new.lists start lists;
        done = λ ks ran left. record {
          gains = root-phase s js ks p.old.job p.new.job p.met.won p.new.lists n p.can.some p.can.some whole first-begun met-roots lists ran.ran left;
          modes = run-modes s Root p.new.lists starts ks (let a = many in let b = p.can.some in omega arith) start.modes ran.ran left;
          ready = ran.ready;
          left = left;
        };
      }

  pub root-begun : HasBegun s from_roots js (record { jobs = set p.begins 0 p.new.job; first = p.new.lists })
  root-begun = subst (λ zs. HasBegun s from_roots js (record { jobs = set zs 0 p.new.job; first = p.new.lists })) (sym p.are_begun) from-starts
