-- From the run of a phase to what its jobs gain.
use Rattle.std.proofs.Common.{◌≡◌, ℕ, ◌<◌, true, not, ◌&&◌, inl, List, [], ◌∷◌, ◌++◌, length, filter, get_or, set, map, sym, refl, ap, ◌∙◌, subst, arith, eqb}
use Rattle.std.specs.List.{AllByRecursion, Contains}
use Rattle.std.proofs.lemmas.Bool.{or_right, and_parts}
use Rattle.steal_pool.specs.declared.task.Task.{Task}
use Rattle.heap_base.specs.Counting.{bit, total, AsOften}
use Rattle.heap_base.proofs.Counting.{total-map}
use Rattle.graph_meaning.specs.Reach.{has_id}
use Rattle.graph_meaning.proofs.Membership.{has_id-head}
use Rattle.steal_pool.specs.Jobs.{AllFit}
use Rattle.steal_pool.specs.Lists.{Each}
use Rattle.steal_pool.specs.Runs.{Run, all_first, AreReady}
use Rattle.scan_job.specs.declared.mode.Mode.{Mode}
use Rattle.scan_job.specs.declared.mode.Mode.TheVariants.{Owner, TakeUp, Root}
use Rattle.scan_job.specs.Shared.{SharedHeap}
use Rattle.scan_job.specs.Fit.{fit_tasks}
use Rattle.scan_job.specs.Gains.{Gain, all_gains, Grows, GainsOf}
use Rattle.scan_job.specs.Graphs.{StoppedGraph, IsWhole, owners}
use Rattle.scan_job.specs.Jobs.{graph_in, shared_meaning}
use Rattle.scan_job.specs.Phases.{AreIn, all_held, AreUnderOwners, starting_in, task_lists, owner_firsts, held_firsts, root_firsts, OwnerGains, TakeUpGains, RootGains}
use Rattle.scan_job.specs.Scans.{Meeting, AreAmong, Meets, task_at}
use Rattle.scan_job.specs.States.{ScanState, NoneSpent}
use Rattle.scan_job.proofs.Dealing.{dealt-as_often}
use Rattle.scan_job.proofs.Fitting.{fit_tasks-is, times-at, at-times, among-at, all-tagged}
use Rattle.scan_job.proofs.OwnerCells.{owners-as_often}
use Rattle.scan_job.proofs.PhaseGains.{owner-gains, take_up-gains, root-gains}
use Rattle.scan_job.proofs.Reaching.{filter-at, root-reached}
use Rattle.scan_job.proofs.Scanned.{Extends, both_gains, both_gains-assoc, gain_of, extends-both, meets-extends, run-scans, begun-grows}
use Rattle.scan_job.proofs.Starting.{all-cons, all-tail, first-ready, graph-whole, begun-modes}

-- ---- jobs that grew

-- the jobs hold what they gained
pub held-gained : (g : StoppedGraph) (js : List ScanState) (gains : List Gain) (ks : List ScanState) → Each (Grows g) js gains ks → all_held ks ≡ (all_gains gains).held
held-gained g [] gains ks e =
    ap all_held e.1 ∙ ap (λ (others : List Gain). (all_gains others).held) (sym e.0)
held-gained g (j ∷ js) [] ks e = absurd e
held-gained g (j ∷ js) (a ∷ gains) [] e = absurd e
held-gained g (j ∷ js) (a ∷ gains) (k ∷ ks) e = λ i. e.0.held i ++ held-gained g js gains ks e.1 i

-- jobs keep their mode
same-modes : (g : StoppedGraph) (mode : Mode) (js : List ScanState) (gains : List Gain) (ks : List ScanState) → Each (Extends g) js gains ks → AreIn mode js → AreIn mode ks
same-modes g mode [] gains ks e are = subst (AreIn mode) (sym e.1) are
same-modes g mode (j ∷ js) [] ks e are = absurd e
same-modes g mode (j ∷ js) (a ∷ gains) [] e are = absurd e
same-modes g mode (j ∷ js) (a ∷ gains) (k ∷ ks) e are =
    all-cons (λ i. i.mode ≡ mode) k ks (e.0.mode ∙ are 0 j (omega arith)) (same-modes g mode js gains ks e.1 (all-tail (λ i. i.mode ≡ mode) j js are))

pub run-modes : (s : SharedHeap) (mode : Mode) (fs : List (List Task)) (js ks : List ScanState) → 0 < length js → AreIn mode js →
    Run shared_meaning s (record { jobs = js; first = fs }) ks → NoneSpent ks → AreIn mode ks
run-modes s mode fs js ks some are run left =
    let r = run-scans s mode fs js ks some are run left in same-modes (graph_in s) mode js r.gains ks r.each are

-- a task of each element is fit where each is
all-tasks : (P : Task → Type 0) (tag : ℕ → ℕ) (xs : List ℕ) → ((x : ℕ) → has_id xs x ≡ true → P (task_at (tag x) x)) → AllByRecursion P (map (λ x. task_at (tag x) x) xs)
all-tasks P tag [] each = tt
all-tasks P tag (x ∷ xs) each = (each x (has_id-head xs x), all-tasks P tag xs (λ y at. each y (or_right _ _ at)))

map-some : (mode : Mode) (js : List ScanState) → 0 < length js → 0 < length (map (starting_in mode) js)
map-some mode [] some = absurd (omega arith)
map-some mode (j ∷ js) some = omega arith

-- what is first dealt is what is to be done
first-often : (n : ℕ) (fs : List (List Task)) (ts : List Task) → 0 < n → fs ≡ task_lists n ts → AsOften (all_first fs) ts
first-often n fs ts some lists h =
    ap (λ (hs : List (List Task)). total h (all_first hs)) lists ∙ dealt-as_often n ts some h

module _ (s : SharedHeap) (js : List ScanState) (some_jobs : 0 < length js) (ready : AreReady shared_meaning s js) where
  abbrev g : StoppedGraph
  g = graph_in s

  whole : IsWhole g
  whole = graph-whole s js some_jobs ready

  -- ---- the first tasks are fit

  pub owners-fit : AllFit (fit_tasks g Owner) (owner_firsts s.roles)
  owners-fit =
      all-tasks (Contains (fit_tasks g Owner)) (λ o. o) s.roles.owners (λ o at. (fit_tasks-is g whole Owner (task_at o o)).1 (at, inl refl))

  pub held-fit : AreUnderOwners g (all_held js) → AllFit (fit_tasks g TakeUp) (held_firsts js)
  held-fit under =
      all-tasks (Contains (fit_tasks g TakeUp)) (λ _. 0) (all_held js) (λ x at. (fit_tasks-is g whole TakeUp (task_at 0 x)).1 (refl, (under x at).0, (under x at).1))

  -- ---- what the run gains

  module _ (ks : List ScanState) (fs : List (List Task)) (n : ℕ) (some_workers : 0 < n) where
    pub owner-phase : fs ≡ task_lists n (owner_firsts s.roles) → Run shared_meaning s (record { jobs = map (starting_in Owner) js; first = fs }) ks → NoneSpent ks → GainsOf g (OwnerGains g) js ks
    owner-phase lists run left =
        let r = run-scans s Owner fs (map (starting_in Owner) js) ks (map-some Owner js some_jobs) (begun-modes s Owner js) run left in
        record {
          gains = r.gains;
          each = begun-grows g Owner js r.gains ks r.each;
          all = owner-gains g whole r.done r.put (all_first fs) (all_gains r.gains) r.scanned r.are_fit r.as_often
              (λ h.
              let a = first-often n fs (owner_firsts s.roles) some_workers lists h in
              let b = total-map h (λ o. task_at o o) s.roles.owners in
              let c = total-map h (λ o. task_at o o) (owners g) in
              let d = owners-as_often s.table s.roles (first-ready s js some_jobs ready).1.roles (λ o. h (task_at o o)) in
              omega arith);
        }

    pub take_up-phase : fs ≡ task_lists n (held_firsts js) → Run shared_meaning s (record { jobs = map (starting_in TakeUp) js; first = fs }) ks → NoneSpent ks → GainsOf g (TakeUpGains g (all_held js)) js ks
    take_up-phase lists run left =
        let r = run-scans s TakeUp fs (map (starting_in TakeUp) js) ks (map-some TakeUp js some_jobs) (begun-modes s TakeUp js) run left in
        record {
          gains = r.gains;
          each = begun-grows g TakeUp js r.gains ks r.each;
          all = take_up-gains g whole r.done r.put (all_first fs) (all_gains r.gains) r.scanned r.are_fit r.as_often (all_held js) (first-often n fs (held_firsts js) some_workers lists);
        }

-- ---- the roots, which the first job met before the run

-- what the first job gained before the run is the first of what all gained
first-gains : (g : StoppedGraph) (mode : Mode) (j : ScanState) (js : List ScanState) (k : ScanState) (gains : List Gain) (ks : List ScanState) (a : Gain) →
    Extends g (starting_in mode j) a k → Each (Extends g) (k ∷ map (starting_in mode) js) gains ks →
    (all : List Gain) × Each (Extends g) (map (starting_in mode) (j ∷ js)) all ks × (all_gains all ≡ both_gains a (all_gains gains))
first-gains g mode j js k [] ks a p e = absurd e
first-gains g mode j js k (b ∷ gains) [] a p e = absurd e
first-gains g mode j js k (b ∷ gains) (l ∷ ks) a p e =
    (both_gains a b ∷ gains, (extends-both g (starting_in mode j) k l a b p e.0, e.1), both_gains-assoc a b (all_gains gains))

-- the meeting with the roots
abbrev pub root_meeting : StoppedGraph → List ℕ → Meeting
root_meeting g won = record { tag = 0; cells = g.roots; won = won }

pub roots-fit : (g : StoppedGraph) → IsWhole g → (won : List ℕ) → AreAmong won g.roots → AllFit (fit_tasks g Root) (root_firsts g won)
roots-fit g whole won among =
    all-tagged (Contains (fit_tasks g Root)) 0 (λ x. not (g.is_owner x)) won
    (λ x at free. (fit_tasks-is g whole Root (task_at 0 x)).1 (refl, free, root-reached g whole x (among-at won g.roots among x at)))

root-jobs : (s : SharedHeap) (j : ScanState) (js ks : List ScanState) (k : ScanState) (won : List ℕ) (fs : List (List Task)) (n : ℕ) → 0 < n →
    IsWhole (graph_in s) → Meets (graph_in s) (root_meeting (graph_in s) won) (starting_in Root j) k → fs ≡ task_lists n (root_firsts (graph_in s) won) →
    Run shared_meaning s (record { jobs = k ∷ map (starting_in Root) js; first = fs }) ks → NoneSpent ks → GainsOf (graph_in s) (RootGains (graph_in s)) (j ∷ js) ks
root-jobs s j js ks k won fs n some whole met lists run left =
    let g = graph_in s in
    let modes : AreIn Root (k ∷ map (starting_in Root) js) = all-cons (λ i. i.mode ≡ Root) k (map (starting_in Root) js) met.mode (begun-modes s Root js) in
    let r = run-scans s Root fs (k ∷ map (starting_in Root) js) ks (omega arith) modes run left in
    let a = gain_of g Root (root_meeting g won) in
    let f = first-gains g Root j js k r.gains ks a (meets-extends g (starting_in Root j) k (root_meeting g won) met) r.each in
    record {
      gains = f.0;
      each = begun-grows g Root (j ∷ js) f.0 ks f.1;
      all =
          subst (RootGains g) (sym f.2)
          (root-gains g whole r.done r.put (all_first fs) (all_gains r.gains) r.scanned r.are_fit r.as_often won met.among
          (first-often n fs (root_firsts g won) some lists));
    }

-- the first of the jobs that have begun met the roots and became k
pub root-phase : (s : SharedHeap) (js ks : List ScanState) (j k : ScanState) (won : List ℕ) (fs : List (List Task)) (n : ℕ) → 0 < length js →
    0 < n → IsWhole (graph_in s) → j ≡ get_or (map (starting_in Root) js) 0 j → Meets (graph_in s) (root_meeting (graph_in s) won) j k →
    fs ≡ task_lists n (root_firsts (graph_in s) won) → Run shared_meaning s (record { jobs = set (map (starting_in Root) js) 0 k; first = fs }) ks → NoneSpent ks →
    GainsOf (graph_in s) (RootGains (graph_in s)) js ks
root-phase s [] ks j k won fs n some_jobs some_workers whole is met lists run left = absurd (omega arith)
root-phase s (i ∷ js) ks j k won fs n some_jobs some_workers whole is met lists run left =
    root-jobs s i js ks k won fs n some_workers whole (subst (λ z. Meets (graph_in s) (root_meeting (graph_in s) won) z k) is met) lists run left

-- What the owner phase holds can be taken up.
pub held-under : (g : StoppedGraph) (js ks : List ScanState) → GainsOf g (OwnerGains g) js ks → AreUnderOwners g (all_held ks)
held-under g js ks gained x at =
    let a = times-at x (all_held ks) at in
    let b = ap (total (λ y. bit (eqb y x))) (held-gained g js gained.gains ks gained.each) in
    let c = gained.all.held (λ y. bit (eqb y x)) in
    let kept = λ (z : ℕ). g.is_ownee z && not (g.is_owner z) in
    let f = filter-at kept (all_gains gained.gains).wins x (at-times x (filter kept (all_gains gained.gains).wins) (omega arith)) in
    ((and_parts (g.is_ownee x) (not (g.is_owner x)) f.0).1, gained.all.wins x f.1)

-- Take-up leaves nothing held.
pub none-held : (g : StoppedGraph) (js ks : List ScanState) (P : Gain → Type 0) (gained : GainsOf g P js ks) → (all_gains gained.gains).held ≡ [] → all_held ks ≡ []
none-held g js ks P gained none = held-gained g js gained.gains ks gained.each ∙ none
