-- The rule of the header words, which holds between any two steps.
use Rattle.std.specs.Prelude.{◌≡◌, ℕ, ◌+◌, ◌*◌, ◌^◌, ◌<◌, ◌≤◌, [], length, slice_index}
use mathlib.Core.Option.{some}
use lib.ListN.{get_elem?}
use Rattle.atomic_table.specs.Table.{State}
use Rattle.heap_base.specs.Counting.{bit, is_positive}
use Rattle.header_rule.specs.declared.view.View.{View}
use Rattle.header_rule.specs.Views.{rights_in, adds_in, wins_in, word_of}

-- a view with so many rights that has met nothing
abbrev pub new_view : ℕ → View
new_view rights = record { rights = rights; adds = []; wins = []; marks = [] }

-- a view without a right has met nothing, and each right stands for at most 2 ^ 51 adds
pub record FitsRights (v : View) : Type 0 where
  pub idle : v.rights ≡ 0 → v ≡ new_view 0
  pub bounded : length v.adds ≤ v.rights * 2 ^ 51

-- Word 0 is the opening word: 0 until the first seat has taken the 16 rights, then 1. The cell x has the word x + 1.
pub record KeepsRule (cells : ℕ) (s : State (Unit {0}) View) : Type 0 where
  pub sized : length s.words ≡ cells + 1
  pub opening : slice_index s.words 0 < 2
  pub rights : rights_in s.views ≡ 16 * slice_index s.words 0
  pub fits : (id : ℕ) (v : View) → get_elem? s.views id ≡ some v → FitsRights v
  pub words : (x : ℕ) → x < cells → slice_index s.words (x + 1) ≡ word_of x s.views
  pub wins : (x : ℕ) → wins_in x s.views ≡ bit (is_positive (adds_in x s.views))
