-- What clauses say of the words after the last meet.
use Rattle.std.specs.Prelude.{ℕ, ◌+◌, Bool, slice_index}
use Rattle.header_rule.specs.declared.mark.Mark.{Mark}
use Rattle.header_rule.specs.declared.words.Words.{Words}
use Rattle.header_rule.specs.Layout.{count_of, has_bit}
use Rattle.header_rule.specs.Stores.{words_of}

-- the word of the cell x
abbrev pub word_in : Words → ℕ → ℕ
word_in w x = slice_index (words_of w.store) (x + 1)

abbrev pub count_in : Words → ℕ → ℕ
count_in w x = count_of (word_in w x)

abbrev pub has_mark_in : Mark → Words → ℕ → Bool
has_mark_in m w x = has_bit (word_in w x) m
