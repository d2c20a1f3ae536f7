-- What is traced in a heap that stands still, by cells, and what the passes and tallies of a trace say of it.
use Rattle.std.specs.Prelude.{◌≡◌, ℕ, ◌+◌, List, length, filter, Bool, true, not, ◌||◌, ◌&&◌, if◌then◌else◌, slice_index, IsTrue}
use Rattle.std.specs.List.{All, list_any}
use Rattle.heap_base.specs.Counting.{bit, is_positive, total, times}
use Rattle.graph_meaning.specs.Reach.{Graph, has_id, reached_nodes}
use Rattle.header_rule.specs.declared.mark.Mark.TheVariants.{Found, MetByRoots}
use Rattle.header_rule.specs.Passes.{IsFresh, all_adds, all_wins, all_marks}
use Rattle.scan_job.specs.Gains.{GainsOf}
use Rattle.scan_job.specs.Graphs.{StoppedGraph, IsWhole, is_under_owners, is_found_from}
use Rattle.scan_job.specs.Phases.{all_held, OwnerGains, TakeUpGains, RootGains}
use Rattle.scan_job.specs.Scans.{kind_count}
use Rattle.scan_job.specs.States.{ScanState, passes_of}

-- the objects that are under no owner, and their edges
abbrev pub free_graph : StoppedGraph → Graph
free_graph g = record { nodes = filter (λ x. not (is_under_owners g x)) g.nodes; targets = g.targets; passable = λ _. true }

-- what a path from a root leads to on which no object is under owners
abbrev pub root_traced : StoppedGraph → List ℕ
root_traced g = reached_nodes (free_graph g) g.roots

abbrev pub is_root_traced : StoppedGraph → ℕ → Bool
is_root_traced g x = has_id (root_traced g) x

abbrev pub is_traced : StoppedGraph → ℕ → Bool
is_traced g x = is_under_owners g x || is_root_traced g x

abbrev pub traced_cells : StoppedGraph → List ℕ
traced_cells g = filter (is_traced g) g.nodes

-- a root names the object, or a slot of a root-traced object that is no owner leads to it
abbrev pub is_met : StoppedGraph → ℕ → Bool
is_met g e = has_id g.roots e || list_any (λ x. not (g.is_owner x) && has_id (g.targets x) e) (root_traced g)

-- how many slots of the object s lead to x: only those of traced objects and of owners count
abbrev pub slots_to : StoppedGraph → ℕ → ℕ → ℕ
slots_to g x s = if is_traced g s || g.is_owner s then times x (g.targets s) else 0

-- how many references there are to x
abbrev pub reference_count : StoppedGraph → ℕ → ℕ
reference_count g x = times x g.roots + total (slots_to g x) g.nodes

-- ---- what a trace leaves

-- the number of a type in all tallies together
abbrev pub all_tallies : ℕ → List ScanState → ℕ
all_tallies kind js = total (λ j. slice_index j.tally kind) js

-- The job has met nothing and counts nothing.
pub record IsNew (j : ScanState) : Type 0 where
  pub fresh : IsFresh j.pass
  pub zero : (kind : ℕ) → slice_index j.tally kind ≡ 0

-- a new job for so many cells and types
pub record IsNewFor (cells kinds : ℕ) (j : ScanState) : Type 0 where
  pub is_new : IsNew j
  pub cells_are : j.cells ≡ cells
  pub kinds_are : length j.tally ≡ kinds

-- each cell that was met was won once
abbrev pub AreWonOnce : List ScanState → Type 0
AreWonOnce js = (x : ℕ) → all_wins x (passes_of js) ≡ bit (is_positive (all_adds x (passes_of js)))

-- By these jobs the graph was traced.
-- count: each object was met once for each reference to it
-- kept: what was met is what is traced
-- instances: the tallies count the traced objects of each type
-- found: whatever is marked found is found by its owner
-- marked: an ownee that a slot of its owner leads to is marked found
-- met: an ownee that is met by roots is marked so
pub record AreTraced (g : StoppedGraph) (js : List ScanState) : Type 0 where
  pub count : (x : ℕ) → all_adds x (passes_of js) ≡ reference_count g x
  pub kept : (x : ℕ) → is_positive (all_adds x (passes_of js)) ≡ is_traced g x
  pub instances : (kind : ℕ) → all_tallies kind js ≡ kind_count g kind (traced_cells g)
  pub found : (e : ℕ) → IsTrue (is_positive (all_marks Found e (passes_of js))) → (o : ℕ) × IsTrue (g.owns o e) × IsTrue (is_found_from g o e)
  pub marked : (o e : ℕ) → IsTrue (g.owns o e) → IsTrue (has_id (g.targets o) e) → IsTrue (is_positive (all_marks Found e (passes_of js)))
  pub met : (e : ℕ) → IsTrue (g.is_ownee e) → IsTrue (is_met g e) → IsTrue (is_positive (all_marks MetByRoots e (passes_of js)))

-- The jobs js gained by the three phases, one after another, and became ms.
pub record ThreePhases (g : StoppedGraph) (js ms : List ScanState) : Type 0 where
  pub owned : List ScanState
  pub taken_up : List ScanState
  pub owner_phase : GainsOf g (OwnerGains g) js owned
  pub take_up : GainsOf g (TakeUpGains g (all_held owned)) owned taken_up
  pub root_phase : GainsOf g (RootGains g) taken_up ms

-- New jobs that gained by the three phases have traced the graph, where each cell that was met was won once.
abbrev pub PhasesTrace : Type 0
PhasesTrace =
    (g : StoppedGraph) (js ms : List ScanState) → IsWhole g → All IsNew js → ThreePhases g js ms → AreWonOnce ms → AreTraced g ms
