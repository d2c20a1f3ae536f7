-- What jobs gain: the entries by which their lists are longer afterwards, at the ends.
use Rattle.std.specs.Prelude.{◌≡◌, ℕ, ◌+◌, List, ◌++◌, Bool, length, slice_index}
use Rattle.std.specs.List.{flat_map}
use Rattle.heap_base.specs.Counting.{is_positive}
use Rattle.header_rule.specs.declared.mark.Mark.{Mark}
use Rattle.header_rule.specs.Passes.{adds, wins, marks}
use Rattle.header_rule.specs.Views.{times_marked}
use Rattle.steal_pool.specs.Lists.{Each}
use Rattle.scan_job.specs.Graphs.{StoppedGraph}
use Rattle.scan_job.specs.Scans.{kind_count}
use Rattle.scan_job.specs.States.{ScanState}

-- The cells that were met, those of them that were won, those of these that are held, and the marks that were set, each with
-- its cell; all in order.
pub record Gain : Type 0 where
  pub adds : List ℕ
  pub wins : List ℕ
  pub held : List ℕ
  pub marks : List (ℕ × Mark)

-- what all jobs gained, in the order of the jobs
abbrev pub all_gains : List Gain → Gain
all_gains gains = record {
  adds = flat_map (λ (a : Gain). a.adds) gains;
  wins = flat_map (λ (a : Gain). a.wins) gains;
  held = flat_map (λ (a : Gain). a.held) gains;
  marks = flat_map (λ (a : Gain). a.marks) gains;
}

-- whether the mark of the cell is among these
abbrev pub lists_mark : Mark → ℕ → List (ℕ × Mark) → Bool
lists_mark mark cell marks = is_positive (times_marked mark cell marks)

-- By this gain the job j became k: the lists of its pass are longer, it holds what was held, and its tally rose by the wins of
-- each type. It keeps the number of its pass and what it was made for.
pub record Grows (g : StoppedGraph) (j : ScanState) (a : Gain) (k : ScanState) : Type 0 where
  pub number : k.pass.number ≡ j.pass.number
  pub cells : k.cells ≡ j.cells
  pub kinds : length k.tally ≡ length j.tally
  pub adds : adds k.pass ≡ adds j.pass ++ a.adds
  pub wins : wins k.pass ≡ wins j.pass ++ a.wins
  pub marks : marks k.pass ≡ marks j.pass ++ a.marks
  pub held : k.held ≡ a.held
  pub tally : (kind : ℕ) → slice_index k.tally kind ≡ slice_index j.tally kind + kind_count g kind a.wins

-- Each job grew by a gain of its own, and P is true of all these gains together.
pub record GainsOf (g : StoppedGraph) (P : Gain → Type 0) (js ks : List ScanState) : Type 0 where
  pub gains : List Gain
  pub each : Each (Grows g) js gains ks
  pub all : P (all_gains gains)
