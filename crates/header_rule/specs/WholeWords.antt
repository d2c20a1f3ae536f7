-- What all words say to a view that has all that was met.
use Rattle.std.specs.Prelude.{◌≡◌, ℕ, ◌+◌, ◌<◌, List, length, slice_index}
use Rattle.heap_base.specs.Counting.{bit, is_positive, times}
use Rattle.header_rule.specs.declared.mark.Mark.{Mark}
use Rattle.header_rule.specs.declared.view.View.{View}
use Rattle.header_rule.specs.Layout.{count_of, has_bit}
use Rattle.header_rule.specs.Views.{times_marked}

-- The first is the opening word, and the cell x has the word x + 1.
-- counts: each word counts how often its cell was met
-- marks: it has the marks of its cell
-- wins: each cell that was met was won once
pub record TellsWords (ws : List ℕ) (v : View) : Type 0 where
  pub counts : (x : ℕ) → x + 1 < length ws → count_of (slice_index ws (x + 1)) ≡ times x v.adds
  pub marks : (m : Mark) (x : ℕ) → x + 1 < length ws → has_bit (slice_index ws (x + 1)) m ≡ is_positive (times_marked m x v.marks)
  pub wins : (x : ℕ) → times x v.wins ≡ bit (is_positive (times x v.adds))
