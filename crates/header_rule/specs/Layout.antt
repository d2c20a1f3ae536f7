-- What the bits of a header word mean, and the marks of one meet.
use Rattle.std.specs.Prelude.{ℕ, ◌+◌, ◌*◌, ◌/◌, ◌%◌, ◌^◌, ◌==◌, Bool, List, [], ◌∷◌, map}
use Rattle.std.specs.List.{filter}
use Rattle.heap_base.specs.Counting.{bit}
use Rattle.header_rule.specs.declared.mark.Mark.{Mark}
use Rattle.header_rule.specs.declared.mark.Mark.TheVariants.{Found, Disputed, MetByRoots}
use Rattle.header_rule.specs.declared.mark.Marks.{Marks}

-- bits 0 to 55
abbrev pub count_of : ℕ → ℕ
count_of word = word % 2 ^ 56

-- what each mark adds to a word: bit 56, 57 or 58
abbrev pub mark_bit : Mark → ℕ
mark_bit Found = 2 ^ 56
mark_bit Disputed = 2 ^ 57
mark_bit MetByRoots = 2 ^ 58

-- the word has the mark
abbrev pub has_bit : ℕ → Mark → Bool
has_bit word m = word / mark_bit m % 2 == 1

-- what the marks that pass the test add to a word
abbrev pub bits_of : (Mark → Bool) → ℕ
bits_of p = bit (p Found) * mark_bit Found + bit (p Disputed) * mark_bit Disputed + bit (p MetByRoots) * mark_bit MetByRoots

-- the mark is among those that a meet is given
abbrev pub is_given : Marks → Mark → Bool
is_given given Found = given.found
is_given given Disputed = given.disputed
is_given given MetByRoots = given.met_by_roots

-- the marks that pass the test, each with the cell x
abbrev pub marks_passing : (Mark → Bool) → ℕ → List (ℕ × Mark)
marks_passing p x = map (λ m. (x, m)) (filter p (Found ∷ Disputed ∷ MetByRoots ∷ []))
