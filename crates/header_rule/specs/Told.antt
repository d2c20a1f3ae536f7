-- What the words say of all that the passes met.
use Rattle.std.specs.Prelude.{◌≡◌, ℕ, ◌<◌, List}
use Rattle.heap_base.specs.Counting.{bit, is_positive}
use Rattle.header_rule.specs.declared.mark.Mark.{Mark}
use Rattle.header_rule.specs.declared.pass.Pass.{Pass}
use Rattle.header_rule.specs.declared.words.Words.{Words}
use Rattle.header_rule.specs.ClosedWords.{count_in, has_mark_in}
use Rattle.header_rule.specs.Passes.{all_adds, all_wins, all_marks}

-- counts: how often each cell was met
-- marks: which marks were set
-- wins: each cell that was met was won once
pub record TellOf (ps : List Pass) (w : Words) : Type 0 where
  pub counts : (x : ℕ) → x < w.cells → count_in w x ≡ all_adds x ps
  pub marks : (m : Mark) (x : ℕ) → x < w.cells → has_mark_in m w x ≡ is_positive (all_marks m x ps)
  pub wins : (x : ℕ) → all_wins x ps ≡ bit (is_positive (all_adds x ps))
