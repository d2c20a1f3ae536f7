-- What contracts see of the result of a trace.
use Rattle.std.specs.Prelude.{◌≡◌, ℕ, List, map, Bool}
use Rattle.std.specs.List.{range_with_len}
use Rattle.heap_base.specs.Counting.{bit, is_positive, total}
use Rattle.header_rule.specs.declared.words.Words.{Words}
use Rattle.header_rule.specs.ClosedWords.{count_in}

-- The closed words; for each type how many of its objects are traced; for each cell whether its object is traced; and how many
-- objects are traced.
pub record TraceResult : Type 0 where
  pub words : Words
  pub instances : List ℕ
  pub kept : List Bool
  pub traced : ℕ

-- which of the first cells have a positive count
abbrev pub kept_below : Words → ℕ → List Bool
kept_below w cells = map (λ cell. is_positive (count_in w cell)) (range_with_len 0 cells)

-- how many of these are true
abbrev pub many_of : List Bool → ℕ
many_of kept = total bit kept

-- The cells with a positive count are kept, and so many are traced.
pub record IsByCounts (t : TraceResult) : Type 0 where
  pub kept_are : t.kept ≡ kept_below t.words t.words.cells
  pub traced_are : t.traced ≡ many_of t.kept
