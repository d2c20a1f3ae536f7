-- What a scan job means to whoever runs it.
use Rattle.std.specs.Prelude.{◌≡◌, length}
use Rattle.graph_meaning.specs.Roles.{AreRolesOf}
use Rattle.header_rule.specs.Passes.{IsPassOf}
use Rattle.object_table.specs.Placed.{IsPlaced, IsSound}
use Rattle.steal_pool.specs.Jobs.{Meaning}
use Rattle.scan_job.specs.declared.shared.ScanShared.{ScanShared}
use Rattle.scan_job.specs.Cells.{graph_of}
use Rattle.scan_job.specs.Graphs.{StoppedGraph}
use Rattle.scan_job.specs.Fit.{fit_tasks}
use Rattle.scan_job.specs.Scans.{Works}
use Rattle.scan_job.specs.Shared.{SharedHeap, shared_behind}
use Rattle.scan_job.specs.States.{ScanState, wins_left, turns_of}

-- the graph of what is shared
abbrev pub graph_in : SharedHeap → StoppedGraph
graph_in s = graph_of s.table s.roles

-- The job's pass is of the shared headers, which were made for the table's cells; the job was made for the table's cells and
-- types; and the roles are of the table. The last two are true of every table, as `cells` says.
pub record IsReadyFor (j : ScanState) (s : SharedHeap) : Type 0 where
  pub pass : IsPassOf s.headers j.pass
  pub headers : s.headers.cells ≡ j.cells
  pub cells : j.cells ≡ length s.table.cells
  pub kinds : length j.tally ≡ length s.table.table.kinds
  pub roles : AreRolesOf s.table.cells (length s.table.table.kinds) s.roles
  pub placed : IsPlaced s.table
  pub sound : IsSound s.table.table

-- what a scan job means beside a value of S, which holds what is shared
abbrev pub meaning_over : {S : Type 0} → (S → SharedHeap) → Meaning ScanState S
meaning_over held = record {
  ready = λ j s. IsReadyFor j (held s);
  fit = λ j s. fit_tasks (graph_in (held s)) j.mode;
  room = wins_left;
  turns = turns_of;
  works = λ s. Works (graph_in (held s));
}

abbrev pub shared_meaning : Meaning ScanState SharedHeap
shared_meaning = meaning_over (λ s. s)

-- ---- where what is shared is borrowed

abbrev pub shared_graph : ScanShared → StoppedGraph
shared_graph s = graph_in (shared_behind s)

abbrev pub IsReady : ScanState → ScanShared → Type 0
IsReady j s = IsReadyFor j (shared_behind s)

abbrev pub scan_meaning : Meaning ScanState ScanShared
scan_meaning = meaning_over shared_behind
