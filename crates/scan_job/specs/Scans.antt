-- What a scan does to a job, by the job's mode.
use Rattle.std.specs.Prelude.{◌≡◌, ℕ, ◌+◌, ◌≤◌, ◌==◌, List, [], ◌∷◌, ◌++◌, length, filter, map, Bool, false, if◌then◌else◌, not, ◌&&◌, slice_index}
use Rattle.std.specs.List.{flat_map}
use Rattle.steal_pool.specs.declared.task.Task.{Task}
use Rattle.heap_base.specs.Counting.{bit, total}
use Rattle.header_rule.specs.declared.mark.Mark.{Mark}
use Rattle.header_rule.specs.declared.mark.Mark.TheVariants.{Found, Disputed, MetByRoots}
use Rattle.header_rule.specs.Passes.{adds, wins, marks}
use Rattle.steal_pool.specs.Jobs.{JobAfter}
use Rattle.scan_job.specs.declared.mode.Mode.{Mode}
use Rattle.scan_job.specs.declared.mode.Mode.TheVariants.{Owner, TakeUp, Root}
use Rattle.scan_job.specs.Graphs.{StoppedGraph, is_border}
use Rattle.scan_job.specs.States.{ScanState, IsSpent, IsUnspent}

-- Cells that were met under one tag, in order, and those of them that were won.
pub record Meeting : Type 0 where
  pub tag : ℕ
  pub cells : List ℕ
  pub won : List ℕ

-- one cell was met, and won or not
abbrev pub one_meeting : ℕ → ℕ → Bool → Meeting
one_meeting tag cell won = record { tag = tag; cells = cell ∷ []; won = if won then cell ∷ [] else [] }

-- a cell that was won is put as a task
abbrev pub is_put : StoppedGraph → Mode → ℕ → Bool
is_put g Owner x = not (is_border g x)
is_put g TakeUp x = not (g.is_owner x)
is_put g Root x = not (g.is_owner x)

-- a cell that was won is held for take-up
abbrev pub is_held : StoppedGraph → Mode → ℕ → Bool
is_held g Owner x = g.is_ownee x && not (g.is_owner x)
is_held g TakeUp x = false
is_held g Root x = false

-- The mark that a meeting with an ownee sets. In mode Owner the tag is the cell of the owner whose scan it is.
abbrev pub mark_of : StoppedGraph → Mode → ℕ → ℕ → List Mark
mark_of g Owner tag x = if g.owns tag x then Found ∷ [] else Disputed ∷ []
mark_of g TakeUp tag x = []
mark_of g Root tag x = MetByRoots ∷ []

-- the marks that a meeting with a cell sets, each with the cell
abbrev pub marks_on : StoppedGraph → Mode → ℕ → ℕ → List (ℕ × Mark)
marks_on g mode tag x = if g.is_ownee x then map (λ m. (x, m)) (mark_of g mode tag x) else []

abbrev pub marks_on_cells : StoppedGraph → Mode → Meeting → List (ℕ × Mark)
marks_on_cells g mode m = flat_map (marks_on g mode m.tag) m.cells

-- how many of these objects are of the type with this number
abbrev pub kind_count : StoppedGraph → ℕ → List ℕ → ℕ
kind_count g kind xs = total (λ x. bit (g.kind x == kind)) xs

-- what is won is among what is met, each no more often
abbrev pub AreAmong : List ℕ → List ℕ → Type 0
AreAmong won met = (f : ℕ → ℕ) → total f won ≤ total f met

-- The job j met these cells, and became k. It keeps its mode, the number of its pass, and what it was made for.
pub record Meets (g : StoppedGraph) (m : Meeting) (j k : ScanState) : Type 0 where
  pub mode : k.mode ≡ j.mode
  pub number : k.pass.number ≡ j.pass.number
  pub cells : k.cells ≡ j.cells
  pub kinds : length k.tally ≡ length j.tally
  pub adds : adds k.pass ≡ adds j.pass ++ m.cells
  pub wins : wins k.pass ≡ wins j.pass ++ m.won
  pub among : AreAmong m.won m.cells
  pub marks : marks k.pass ≡ marks j.pass ++ marks_on_cells g j.mode m
  pub held : k.held ≡ j.held ++ filter (is_held g j.mode) m.won
  pub tally : (kind : ℕ) → slice_index k.tally kind ≡ slice_index j.tally kind + kind_count g kind m.won

abbrev pub task_at : ℕ → ℕ → Task
task_at tag cell = record { cell = cell; tag = tag }

-- the tasks that come of a meeting
abbrev pub put_tasks : StoppedGraph → Mode → Meeting → List Task
put_tasks g mode m = map (task_at m.tag) (filter (is_put g mode) m.won)

-- the meeting with what the slots of the task's cell lead to, each slot once and in order
abbrev pub scan_meeting : StoppedGraph → Task → List ℕ → Meeting
scan_meeting g t won = record { tag = t.tag; cells = g.targets t.cell; won = won }

-- The job j scanned the task's cell, became the job after it, and put its tasks meanwhile.
pub record Scans (g : StoppedGraph) (j : ScanState) (t : Task) (after : JobAfter ScanState) : Type 0 where
  pub won : List ℕ
  pub meets : Meets g (scan_meeting g t won) j after.job
  pub puts : after.put ≡ put_tasks g j.mode (scan_meeting g t won)

-- What the job j may become by the task, and put meanwhile.
-- scans: it scans the task's cell
-- idle: where it is spent, it stays as it is and puts nothing
pub record Works (g : StoppedGraph) (j : ScanState) (t : Task) (after : JobAfter ScanState) : Type 0 where
  pub scans : IsUnspent j → Scans g j t after
  pub idle : IsSpent j → (after.job ≡ j) × (after.put ≡ [])
