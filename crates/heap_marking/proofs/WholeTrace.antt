-- New jobs can go through the three phases, and afterwards they have the passes of the headers.
use Rattle.std.proofs.Common.{◌≡◌, ℕ, zero, suc, ◌<◌, ◌≤◌, List, [], ◌∷◌, length, sym, ap, ◌∙◌, arith}
use Rattle.std.specs.List.{All}
use Rattle.heap_base.specs.declared.limits.TheConstants.{MOST_WORKERS}
use Rattle.graph_meaning.specs.Roles.{AreRolesOf}
use Rattle.header_rule.specs.declared.headers.Headers.{Headers}
use Rattle.header_rule.specs.Passes.{IsPassOf, ArePassesOf, numbers}
use Rattle.object_table.specs.Placed.{IsPlaced, IsSound}
use Rattle.steal_pool.specs.FirstLists.{FirstLists}
use Rattle.steal_pool.specs.Lists.{Each}
use Rattle.steal_pool.specs.Runs.{AreReady}
use Rattle.scan_job.specs.Shared.{SharedHeap}
use Rattle.scan_job.specs.Gains.{Gain, Grows}
use Rattle.scan_job.specs.Graphs.{StoppedGraph}
use Rattle.scan_job.specs.Jobs.{IsReadyFor, shared_meaning}
use Rattle.scan_job.specs.Phases.{cells_in, CanBeginPhase}
use Rattle.scan_job.specs.States.{ScanState, passes_of}
use Rattle.scan_job.proofs.Starting.{all-map}
use Rattle.heap_marking.specs.TracedCells.{IsNew, IsNewFor, ThreePhases}

-- ---- before

-- what all jobs of a list have is what their passes have
passes-at : (h : Headers) (js : List ScanState) → All (IsPassOf h) (passes_of js) → All (λ j. IsPassOf h j.pass) js
passes-at h [] all k d within = absurd (omega arith)
passes-at h (j ∷ js) all zero d within = all 0 j.pass (omega arith)
passes-at h (j ∷ js) all (suc k) d within =
    passes-at h js (λ i e less. all (suc i) e (omega arith)) k d (omega arith)

-- What the memory of a trace has, and that it was taken for a table.
pub record FitsTable (s : SharedHeap) (js : List ScanState) (first : FirstLists) : Type 0 where
  pub passes : ArePassesOf s.headers (passes_of js)
  pub new : All (IsNewFor s.headers.cells (length s.table.table.kinds)) js
  pub cells : s.headers.cells ≡ cells_in s
  pub some : 0 < length js
  pub few : length js ≤ MOST_WORKERS
  pub lists : length first.lists ≡ length js
  pub list_room : s.headers.cells ≤ first.room

module _ (s : SharedHeap) (js : List ScanState) (first : FirstLists) (fits : FitsTable s js first)
    (roles : AreRolesOf s.table.cells (length s.table.table.kinds) s.roles) (placed : IsPlaced s.table) (sound : IsSound s.table.table) where
  pub can-begin : CanBeginPhase s js first
  can-begin = record {
    some = fits.some;
    few = fits.few;
    ready = λ k d within.
        (let n = fits.new k d within in
        record {
          pass = passes-at s.headers js fits.passes.0 k d within;
          headers = sym n.cells_are;
          cells = n.cells_are ∙ fits.cells;
          kinds = n.kinds_are;
          roles = roles;
          placed = placed;
          sound = sound;
        });
    left = λ k d within. (let left = (fits.new k d within).is_new.fresh.left in omega arith);
    lists = fits.lists;
    list_room = (let a = fits.list_room in let b = fits.cells in omega arith);
  }

pub all-new : (cells kinds : ℕ) (js : List ScanState) → All (IsNewFor cells kinds) js → All IsNew js
all-new cells kinds js new k d within = (new k d within).is_new

-- ---- afterwards

pub grown-many : (g : StoppedGraph) (js : List ScanState) (gains : List Gain) (ks : List ScanState) → Each (Grows g) js gains ks → length ks ≡ length js
grown-many g [] gains ks e = ap length e.1
grown-many g (j ∷ js) [] ks e = absurd e
grown-many g (j ∷ js) (a ∷ gains) [] e = absurd e
grown-many g (j ∷ js) (a ∷ gains) (k ∷ ks) e = ap suc (grown-many g js gains ks e.1)

grown-numbers : (g : StoppedGraph) (js : List ScanState) (gains : List Gain) (ks : List ScanState) → Each (Grows g) js gains ks → numbers (passes_of ks) ≡ numbers (passes_of js)
grown-numbers g [] gains ks e = ap (λ is. numbers (passes_of is)) e.1
grown-numbers g (j ∷ js) [] ks e = absurd e
grown-numbers g (j ∷ js) (a ∷ gains) [] e = absurd e
grown-numbers g (j ∷ js) (a ∷ gains) (k ∷ ks) e = λ i. e.0.number i ∷ grown-numbers g js gains ks e.1 i

module _ (g : StoppedGraph) (js ms : List ScanState) (phases : ThreePhases g js ms) where
  pub many-after : length ms ≡ length js
  many-after =
      grown-many g phases.taken_up phases.root_phase.gains ms phases.root_phase.each
      ∙ grown-many g phases.owned phases.take_up.gains phases.taken_up phases.take_up.each
      ∙ grown-many g js phases.owner_phase.gains phases.owned phases.owner_phase.each

  numbers-after : numbers (passes_of ms) ≡ numbers (passes_of js)
  numbers-after =
      grown-numbers g phases.taken_up phases.root_phase.gains ms phases.root_phase.each
      ∙ grown-numbers g phases.owned phases.take_up.gains phases.taken_up phases.take_up.each
      ∙ grown-numbers g js phases.owner_phase.gains phases.owned phases.owner_phase.each

  pub passes-after : (s : SharedHeap) → AreReady shared_meaning s ms → ArePassesOf s.headers (passes_of js) → ArePassesOf s.headers (passes_of ms)
  passes-after s ready are = (
    all-map (λ (j : ScanState). j.pass) (λ j. IsReadyFor j s) (IsPassOf s.headers) (λ j r. r.pass) ms ready,
    numbers-after ∙ are.1,
  )
