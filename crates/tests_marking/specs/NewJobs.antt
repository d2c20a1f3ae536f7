-- What the tests know of the jobs that they make.
use Rattle.std.specs.Prelude.{◌≡◌, ℕ, List, length, map}
use Rattle.std.specs.List.{All}
use Rattle.header_rule.specs.declared.headers.Headers.{Headers}
use Rattle.header_rule.specs.declared.pass.Pass.{Pass}
use Rattle.header_rule.specs.Passes.{IsFresh, IsPassOf, ArePassesOf}
use Rattle.object_table.specs.Placed.{PlacedTable}
use Rattle.scan_job.specs.States.{ScanState, new_state, passes_of}

-- The job has met nothing, it was made for the table's cells and types, and its pass is of the headers.
pub record IsNewJob (p : PlacedTable) (h : Headers) (j : ScanState) : Type 0 where
  pub is_new : j ≡ new_state j.pass (length p.cells) (length p.table.kinds)
  pub fresh : IsFresh j.pass
  pub pass : IsPassOf h j.pass

-- each job counts the table's types
abbrev pub CountKinds : PlacedTable → List ScanState → Type 0
CountKinds p js = All (λ j. length j.tally ≡ length p.table.kinds) js

-- So many new jobs, which have all passes of the headers, in order; these were made for the table's cells.
pub record AreAllJobs (workers : ℕ) (p : PlacedTable) (h : Headers) (js : List ScanState) : Type 0 where
  pub headers : h.cells ≡ length p.cells
  pub count : length js ≡ workers
  pub each : All (IsNewJob p h) js
  pub passes : ArePassesOf h (passes_of js)
