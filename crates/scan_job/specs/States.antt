-- What contracts see of a scan job.
use Rattle.std.specs.Prelude.{◌≡◌, ℕ, ◌-◌, ◌^◌, ◌<◌, ◌≤◌, List, [], length, map, replicate, IsTrue, slice_index}
use Rattle.std.specs.List.{All}
use Rattle.heap_base.specs.declared.limits.TheConstants.{MOST_SLOTS}
use Rattle.heap_base.specs.Counting.{IsOnce}
use Rattle.graph_meaning.specs.Reach.{has_id}
use Rattle.header_rule.specs.declared.pass.Pass.{Pass}
use Rattle.header_rule.specs.Passes.{wins, IsAsBefore}
use Rattle.scan_job.specs.declared.mode.Mode.{Mode}
use Rattle.scan_job.specs.declared.mode.Mode.TheVariants.{Owner}

-- Its mode; the pass by which it meets cells; the number of cells that it was made for; the cells that it holds, in order; and
-- for each type the number of objects of it that the job won.
pub record ScanState : Type 0 where
  pub mode : Mode
  pub pass : Pass
  pub cells : ℕ
  pub held : List ℕ
  pub tally : List ℕ

-- No cell was won twice, each is below the number of cells, and no more cells are held and no more objects of a type are counted
-- than were won.
pub record IsWithinWins (j : ScanState) : Type 0 where
  pub once : IsOnce (wins j.pass)
  pub below : (cell : ℕ) → IsTrue (has_id (wins j.pass) cell) → cell < j.cells
  pub held : length j.held ≤ length (wins j.pass)
  pub tally : (kind : ℕ) → slice_index j.tally kind ≤ length (wins j.pass)

-- the job k is the job j, and has met nothing more
pub record IsSameJob (j k : ScanState) : Type 0 where
  pub mode : k.mode ≡ j.mode
  pub pass : IsAsBefore j.pass k.pass
  pub cells : k.cells ≡ j.cells
  pub held : k.held ≡ j.held
  pub tally : k.tally ≡ j.tally

-- a job with this pass for so many cells and types that has met nothing yet
abbrev pub new_state : Pass → ℕ → ℕ → ScanState
new_state pass cells kinds = record { mode = Owner; pass = pass; cells = cells; held = []; tally = replicate kinds 0 }

-- the passes of these jobs, in order
abbrev pub passes_of : List ScanState → List Pass
passes_of js = map (λ (j : ScanState). j.pass) js

-- how many cells it may still win, at most
abbrev pub wins_left : ScanState → ℕ
wins_left j = j.cells - length (wins j.pass)

-- The job is spent: its pass has fewer meets left than a task may have slots.
abbrev pub IsSpent : ScanState → Type 0
IsSpent j = j.pass.left < MOST_SLOTS

-- its pass has a meet left for each slot of a task
abbrev pub IsUnspent : ScanState → Type 0
IsUnspent j = MOST_SLOTS ≤ j.pass.left

-- no job of these is spent
abbrev pub NoneSpent : List ScanState → Type 0
NoneSpent js = All IsUnspent js

-- How many tasks it may still be asked to do: more than any run has, since a spent job does nothing.
abbrev pub turns_of : ScanState → ℕ
turns_of j = 2 ^ 63
