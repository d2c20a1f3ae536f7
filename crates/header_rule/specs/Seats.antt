-- Which words a pass reaches.
use Rattle.std.specs.Prelude.{◌≡◌, ℕ, ◌+◌, length, Some, None}
use Rattle.std.specs.declared.option.Option.{Option}
use Rattle.header_rule.specs.declared.reach.Reach.{Reach}
use Rattle.header_rule.specs.declared.reach.Reach.TheVariants.{Table, Own}
use Rattle.header_rule.specs.declared.shared_words.SharedWords.{SharedWords}

-- it has a seat on the table
abbrev pub HasSeatOn : SharedWords → Reach → Type 0
HasSeatOn t (Table s) = s.table_id ≡ t.table.shared.table_id
HasSeatOn t (Own o) = ⊥

-- it has a word of its own for each cell, and the opening word
abbrev pub HasOwnWords : ℕ → Reach → Type 0
HasOwnWords cells (Table s) = ⊥
HasOwnWords cells (Own o) = length o.words ≡ cells + 1

-- it reaches the words of so many cells: those of the table where there is one, else its own
abbrev pub ReachesWords : Option SharedWords → ℕ → Reach → Type 0
ReachesWords (Some t) cells r = HasSeatOn t r
ReachesWords None cells r = HasOwnWords cells r
