-- How often a cell stands in the lists of all views, and the word that this makes.
use Rattle.std.specs.Prelude.{◌≡◌, ℕ, ◌+◌, ◌==◌, ◌&&◌, Bool, true, false, List}
use Rattle.heap_base.specs.Counting.{bit, is_positive, total, times}
use Rattle.header_rule.specs.declared.mark.Mark.{Mark}
use Rattle.header_rule.specs.declared.mark.Mark.TheVariants.{Found, Disputed, MetByRoots}
use Rattle.header_rule.specs.declared.view.View.{View}
use Rattle.header_rule.specs.Layout.{bits_of, count_of, has_bit}

-- the two marks are one
abbrev pub is_mark : Mark → Mark → Bool
is_mark Found Found = true
is_mark Disputed Disputed = true
is_mark MetByRoots MetByRoots = true
is_mark _ _ = false

-- how often the mark m of the cell x stands in the list
abbrev pub times_marked : Mark → ℕ → List (ℕ × Mark) → ℕ
times_marked m x marks = total (λ p. bit (is_mark m p.1 && p.0 == x)) marks

abbrev pub rights_in : List View → ℕ
rights_in views = total (λ v. v.rights) views

-- how often x stands in the adds of all views, and in their wins
abbrev pub adds_in : ℕ → List View → ℕ
adds_in x views = total (λ v. times x v.adds) views

abbrev pub wins_in : ℕ → List View → ℕ
wins_in x views = total (λ v. times x v.wins) views

abbrev pub marks_in : Mark → ℕ → List View → ℕ
marks_in m x views = total (λ v. times_marked m x v.marks) views

-- some view has the mark m of the cell x
abbrev pub has_mark : List View → ℕ → Mark → Bool
has_mark views x m = is_positive (marks_in m x views)

-- the word of the cell x
abbrev pub word_of : ℕ → List View → ℕ
word_of x views = bits_of (has_mark views x) + adds_in x views

-- What a word says to a view that has all that was met. Word 0 is the opening word, and the cell x has the word x + 1.
-- count: the word counts how often its cell was met
-- marks: it has the marks of its cell
-- wins: each cell that was met was won once
pub record TellsWord (word found : ℕ) (v : View) : Type 0 where
  pub count : (x : ℕ) → word ≡ x + 1 → count_of found ≡ times x v.adds
  pub marks : (m : Mark) (x : ℕ) → word ≡ x + 1 → has_bit found m ≡ is_positive (times_marked m x v.marks)
  pub wins : (x : ℕ) → times x v.wins ≡ bit (is_positive (times x v.adds))
