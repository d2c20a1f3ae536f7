-- What jobs gain by lists of tasks.
use Rattle.std.proofs.Common.{◌≡◌, ℕ, suc, ◌<◌, ⊎_elim, List, [], ◌∷◌, ◌++◌, filter, length, map, sym, refl, ap, ◌∙◌, subst, arith, append_assoc, append-nil, eqb}
use Rattle.std.specs.List.{All, AllByRecursion, Contains, flat_map}
use Rattle.std.proofs.lemmas.Bool.{cases_lt}
use Rattle.std.proofs.lemmas.List.{map-append}
use Rattle.std.proofs.lemmas.List.Elements.{filter-append}
use Rattle.std.proofs.lemmas.Grind.{flat_map-append}
use Rattle.steal_pool.specs.declared.task.Task.{Task}
use Rattle.heap_base.specs.declared.limits.TheConstants.{MOST_SLOTS}
use Rattle.heap_base.specs.Counting.{bit, total, AsOften}
use Rattle.heap_base.proofs.Counting.{total-append, total-map, total-flat_map}
use Rattle.header_rule.specs.declared.mark.Mark.{Mark}
use Rattle.header_rule.specs.Passes.{adds, wins, marks}
use Rattle.steal_pool.specs.Jobs.{Does, AllFit}
use Rattle.steal_pool.specs.Lists.{Each}
use Rattle.steal_pool.specs.Runs.{Work, Run, all_first, all_done, all_put}
use Rattle.steal_pool.specs.Runs as Runs
use Rattle.scan_job.specs.declared.mode.Mode.{Mode}
use Rattle.scan_job.specs.Shared.{SharedHeap}
use Rattle.scan_job.specs.Fit.{fit_tasks}
use Rattle.scan_job.specs.Gains.{Gain, all_gains, Grows}
use Rattle.scan_job.specs.Graphs.{StoppedGraph, all_targets}
use Rattle.scan_job.specs.Jobs.{graph_in, shared_meaning}
use Rattle.scan_job.specs.Phases.{AreIn, starting_in}
use Rattle.scan_job.specs.Scans.{Meeting, is_held, is_put, marks_on, marks_on_cells, AreAmong, Meets, Scans, Works, task_at, scan_meeting}
use Rattle.scan_job.specs.States.{ScanState, IsSpent, IsUnspent, NoneSpent}

abbrev pub no_gain : Gain
no_gain = record { adds = []; wins = []; held = []; marks = [] }

abbrev pub both_gains : Gain → Gain → Gain
both_gains a b = record { adds = a.adds ++ b.adds; wins = a.wins ++ b.wins; held = a.held ++ b.held; marks = a.marks ++ b.marks }

pub both_gains-assoc : (a b c : Gain) → both_gains (both_gains a b) c ≡ both_gains a (both_gains b c)
both_gains-assoc a b c = λ i. record {
  adds = append_assoc a.adds b.adds c.adds i;
  wins = append_assoc a.wins b.wins c.wins i;
  held = append_assoc a.held b.held c.held i;
  marks = append_assoc a.marks b.marks c.marks i;
}

-- the marks that the tasks of a list set
abbrev pub task_marks : StoppedGraph → Mode → List Task → List (ℕ × Mark)
task_marks g mode ts = flat_map (λ (t : Task). flat_map (marks_on g mode t.tag) (g.targets t.cell)) ts

-- By this gain, and in its mode, the job j became k, which holds what j held and what was gained.
pub record Extends (g : StoppedGraph) (j : ScanState) (a : Gain) (k : ScanState) : Type 0 where
  pub mode : k.mode ≡ j.mode
  pub held : k.held ≡ j.held ++ a.held
  pub grows : Grows g (record j { held = [] }) a (record k { held = a.held })

-- Jobs in this mode did these tasks, put those and gained this.
pub record Scanned (g : StoppedGraph) (mode : Mode) (ts put : List Task) (a : Gain) : Type 0 where
  pub adds : a.adds ≡ flat_map (λ (t : Task). g.targets t.cell) ts
  pub marks : a.marks ≡ task_marks g mode ts
  pub held : a.held ≡ filter (is_held g mode) a.wins
  pub puts : map (λ (t : Task). t.cell) put ≡ filter (is_put g mode) a.wins
  pub among : AreAmong a.wins a.adds

module _ (g : StoppedGraph) where
  -- ---- gains one after another

  extends-none : (j : ScanState) → Extends g j no_gain j
  extends-none j = record {
    mode = refl;
    held = sym (append-nil j.held);
    grows = record {
      number = refl;
      cells = refl;
      kinds = refl;
      adds = sym (append-nil (adds j.pass));
      wins = sym (append-nil (wins j.pass));
      marks = sym (append-nil (marks j.pass));
      held = refl;
      tally = λ kind. omega arith;
    };
  }

  pub extends-both : (j i k : ScanState) (a b : Gain) → Extends g j a i → Extends g i b k → Extends g j (both_gains a b) k
  extends-both j i k a b p q = record {
    mode = q.mode ∙ p.mode;
    held = q.held ∙ ap (λ xs. xs ++ b.held) p.held ∙ append_assoc j.held a.held b.held;
    grows = record {
      number = q.grows.number ∙ p.grows.number;
      cells = q.grows.cells ∙ p.grows.cells;
      kinds = q.grows.kinds ∙ p.grows.kinds;
      adds = q.grows.adds ∙ ap (λ xs. xs ++ b.adds) p.grows.adds ∙ append_assoc (adds j.pass) a.adds b.adds;
      wins = q.grows.wins ∙ ap (λ xs. xs ++ b.wins) p.grows.wins ∙ append_assoc (wins j.pass) a.wins b.wins;
      marks = q.grows.marks ∙ ap (λ xs. xs ++ b.marks) p.grows.marks ∙ append_assoc (marks j.pass) a.marks b.marks;
      held = refl;
      tally = λ kind. (let s = p.grows.tally kind in let t = q.grows.tally kind in let w = total-append (λ x. bit (eqb (g.kind x) kind)) a.wins b.wins in omega arith);
    };
  }

  -- ---- what one meeting gains

  abbrev pub gain_of : Mode → Meeting → Gain
  gain_of mode m = record { adds = m.cells; wins = m.won; held = filter (is_held g mode) m.won; marks = marks_on_cells g mode m }

  pub meets-extends : (j k : ScanState) (m : Meeting) → Meets g m j k → Extends g j (gain_of j.mode m) k
  meets-extends j k m p = record {
    mode = p.mode;
    held = p.held;
    grows = record { number = p.number; cells = p.cells; kinds = p.kinds; adds = p.adds; wins = p.wins; marks = p.marks; held = refl; tally = p.tally };
  }

  -- ---- what tasks gain

  scanned-none : (mode : Mode) → Scanned g mode [] [] no_gain
  scanned-none mode = record { adds = refl; marks = refl; held = refl; puts = refl; among = λ f. omega arith }

  scanned-both : (mode : Mode) (ts us p q : List Task) (a b : Gain) → Scanned g mode ts p a → Scanned g mode us q b → Scanned g mode (ts ++ us) (p ++ q) (both_gains a b)
  scanned-both mode ts us p q a b s t = record {
    adds = (λ i. s.adds i ++ t.adds i) ∙ sym (flat_map-append (λ (t : Task). g.targets t.cell) ts us);
    marks = (λ i. s.marks i ++ t.marks i) ∙ sym (flat_map-append (λ (t : Task). flat_map (marks_on g mode t.tag) (g.targets t.cell)) ts us);
    held = (λ i. s.held i ++ t.held i) ∙ sym (filter-append (is_held g mode) a.wins b.wins);
    puts = map-append (λ (t : Task). t.cell) p q ∙ (λ i. s.puts i ++ t.puts i) ∙ sym (filter-append (is_put g mode) a.wins b.wins);
    among = λ f. (let x = s.among f in let y = t.among f in let u = total-append f a.wins b.wins in let v = total-append f a.adds b.adds in omega arith);
  }

  cells-tagged : (tag : ℕ) (xs : List ℕ) → map (λ (t : Task). t.cell) (map (task_at tag) xs) ≡ xs
  cells-tagged tag [] = refl
  cells-tagged tag (x ∷ xs) = ap (λ ys. x ∷ ys) (cells-tagged tag xs)

  works-scanned : (j k : ScanState) (t : Task) (put : List Task) (s : Scans g j t (record { job = k; put = put })) → Scanned g j.mode (t ∷ []) put (gain_of j.mode (scan_meeting g t s.won))
  works-scanned j k t put s = record {
    adds = sym (append-nil _);
    marks = sym (append-nil _);
    held = refl;
    puts = ap (map (λ (t : Task). t.cell)) s.puts ∙ cells-tagged t.tag _;
    among = s.meets.among;
  }

  -- ---- a job that is spent stays so

  spent-same : (j k : ScanState) (ts put : List Task) → Does (Works g) j ts (record { job = k; put = put }) → IsSpent j → k ≡ j
  spent-same j k [] put d spent = d.0
  spent-same j k (t ∷ ts) put d spent =
      let same = (d.3.idle spent).0 in spent-same d.0 k ts d.2 d.4 (subst IsSpent (sym same) spent) ∙ same

  unspent-before : (j k : ScanState) (ts put : List Task) → Does (Works g) j ts (record { job = k; put = put }) → IsUnspent k → IsUnspent j
  unspent-before j k ts put d left =
      ⊎_elim
      (λ spent. let same = ap (λ (i : ScanState). i.pass.left) (spent-same j k ts put d spent) in absurd (omega arith))
      (λ unspent. unspent)
      (cases_lt j.pass.left MOST_SLOTS)

  -- ---- what a job gains that is not spent afterwards

  did : (j k : ScanState) (ts put : List Task) → Does (Works g) j ts (record { job = k; put = put }) → IsUnspent k → (a : Gain) × Extends g j a k × Scanned g j.mode ts put a
  did j k [] put d left =
      (no_gain, subst (λ i. Extends g j no_gain i) (sym d.0) (extends-none j), subst (λ p. Scanned g j.mode [] p no_gain) (sym d.1) (scanned-none j.mode))
  did j k (t ∷ ts) put d left =
      let s = d.3.scans (unspent-before j k (t ∷ ts) put d left) in
      let a = gain_of j.mode (scan_meeting g t s.won) in
      let r = did d.0 k ts d.2 d.4 left in
      let later : Scanned g j.mode ts d.2 r.0 = subst (λ m. Scanned g m ts d.2 r.0) s.meets.mode r.2 in (
        both_gains a r.0,
        extends-both j d.0 k a r.0 (meets-extends j d.0 (scan_meeting g t s.won) s.meets) r.1,
        subst (λ p. Scanned g j.mode (t ∷ ts) p (both_gains a r.0)) (sym d.5) (scanned-both j.mode (t ∷ []) ts d.1 d.2 a r.0 (works-scanned j d.0 t d.1 s) later),
      )

  -- ---- what the jobs of a run gain

  did-all : (mode : Mode) (js : List ScanState) (ws : List Work) (ks : List ScanState) → AreIn mode js →
      Each (λ j (w : Work) k. Does (Works g) j w.done (record { job = k; put = w.put })) js ws ks → NoneSpent ks →
      (gains : List Gain) × Each (Extends g) js gains ks × Scanned g mode (all_done ws) (all_put ws) (all_gains gains)
  did-all mode [] ws ks are r left =
      ([], (refl, r.1), subst (λ (vs : List Work). Scanned g mode (all_done vs) (all_put vs) no_gain) (sym r.0) (scanned-none mode))
  did-all mode (j ∷ js) [] ks are r left = absurd r
  did-all mode (j ∷ js) (w ∷ ws) [] are r left = absurd r
  did-all mode (j ∷ js) (w ∷ ws) (k ∷ ks) are r left =
      let d = did j k w.done w.put r.0 (left 0 k (omega arith)) in
      let e = did-all mode js ws ks (λ i x within. are (suc i) x (omega arith)) r.1 (λ i x within. left (suc i) x (omega arith)) in
      let here : Scanned g mode w.done w.put d.0 = subst (λ m. Scanned g m w.done w.put d.0) (are 0 j (omega arith)) d.2 in
      (d.0 ∷ e.0, (d.1, e.1), scanned-both mode w.done (all_done ws) w.put (all_put ws) d.0 (all_gains e.0) here e.2)

  -- All adds of a run are what the slots of the cells lead to that it began with, and those of the wins that are put.
  pub adds-run : (mode : Mode) (done put first : List Task) (a : Gain) (tag : ℕ → ℕ) (cells : List ℕ) → Scanned g mode done put a →
      AsOften done (first ++ put) → AsOften first (map (λ x. task_at (tag x) x) cells) →
      AsOften a.adds (all_targets g cells ++ all_targets g (filter (is_put g mode) a.wins))
  adds-run mode done put first a tag cells s ran begins h =
      let f = λ (x : ℕ). total h (g.targets x) in
      let k = λ (t : Task). total h (g.targets t.cell) in
      let a1 = ap (total h) s.adds in
      let a2 = total-flat_map h (λ (t : Task). g.targets t.cell) done in
      let a3 = ran k in
      let a4 = total-append k first put in
      let a5 = begins k in
      let a6 = total-map k (λ x. task_at (tag x) x) cells in
      let a7 = total-map f (λ (t : Task). t.cell) put in
      let a8 = ap (total f) s.puts in
      let b1 = total-append h (all_targets g cells) (all_targets g (filter (is_put g mode) a.wins)) in
      let b2 = total-flat_map h g.targets cells in
      let b3 = total-flat_map h g.targets (filter (is_put g mode) a.wins) in
      omega arith

-- What the jobs of a run in one mode gained.
pub record RanScans (s : SharedHeap) (mode : Mode) (fs : List (List Task)) (js ks : List ScanState) : Type 0 where
  pub gains : List Gain
  pub each : Each (Extends (graph_in s)) js gains ks
  pub done : List Task
  pub put : List Task
  pub scanned : Scanned (graph_in s) mode done put (all_gains gains)
  pub are_fit : AllFit (fit_tasks (graph_in s) mode) done
  pub as_often : AsOften done (all_first fs ++ put)

-- jobs in one mode have the fit tasks of the mode
pub fit_tasks-in : (s : SharedHeap) (mode : Mode) (js : List ScanState) → 0 < length js → AreIn mode js → Runs.fit_tasks shared_meaning s js ≡ fit_tasks (graph_in s) mode
fit_tasks-in s mode [] some are = absurd (omega arith)
fit_tasks-in s mode (j ∷ js) some are = ap (fit_tasks (graph_in s)) (are 0 j (omega arith))

all-append : {X : Type 0} (P : X → Type 0) (xs ys : List X) → AllByRecursion P xs → AllByRecursion P ys → AllByRecursion P (xs ++ ys)
all-append P [] ys a b = b
all-append P (x ∷ xs) ys a b = (a.0, all-append P xs ys a.1 b)

all-done : (fit : List Task) (ws : List Work) → All (λ (w : Work). AllFit fit w.done) ws → AllFit fit (all_done ws)
all-done fit [] all = tt
all-done fit (w ∷ ws) all =
    all-append (Contains fit) w.done (all_done ws) (all 0 w (omega arith)) (all-done fit ws (λ i x within. all (suc i) x (omega arith)))

pub run-scans : (s : SharedHeap) (mode : Mode) (fs : List (List Task)) (js ks : List ScanState) → 0 < length js → AreIn mode js →
    Run shared_meaning s (record { jobs = js; first = fs }) ks → NoneSpent ks → RanScans s mode fs js ks
run-scans s mode fs js ks some are run left =
    let d = did-all (graph_in s) mode js run.work ks are run.each left in
    record {
      gains = d.0;
      each = d.1;
      done = all_done run.work;
      put = all_put run.work;
      scanned = d.2;
      are_fit = subst (λ fit. AllFit fit (all_done run.work)) (fit_tasks-in s mode js some are) (all-done (Runs.fit_tasks shared_meaning s js) run.work run.are_fit);
      as_often = run.as_often;
    }

-- Jobs that began a phase and then gained: since nothing was held, they hold what they gained.
pub begun-grows : (g : StoppedGraph) (mode : Mode) (js : List ScanState) (gains : List Gain) (ks : List ScanState) → Each (Extends g) (map (starting_in mode) js) gains ks → Each (Grows g) js gains ks
begun-grows g mode [] gains ks e = e
begun-grows g mode (j ∷ js) [] ks e = absurd e
begun-grows g mode (j ∷ js) (a ∷ gains) [] e = absurd e
begun-grows g mode (j ∷ js) (a ∷ gains) (k ∷ ks) e =
    let p = e.0 in
    let q = p.grows in (
      record { number = q.number; cells = q.cells; kinds = q.kinds; adds = q.adds; wins = q.wins; marks = q.marks; held = p.held; tally = q.tally },
      begun-grows g mode js gains ks e.1,
    )
