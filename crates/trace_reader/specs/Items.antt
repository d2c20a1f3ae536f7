-- A trace as the list of its items, one for each line.
use Rattle.std.specs.Prelude.{ℕ, ◌+◌, ◌==◌, List, [], ◌∷◌, length, ◌&&◌, not, nat_le, nat_lt, if◌then◌else◌, take_while}
use Rattle.heap_base.specs.declared.limits.TheConstants.{LONGEST_LINE}
use Rattle.graph_meaning.specs.declared.refusal.Refusal.TheVariants.{LineTooLong, TraceTooLong}
use Rattle.trace_reader.specs.Meaning.{Item, refused, item_of_line}

-- a byte in front of the first piece
abbrev pub in_front : ℕ → List (List ℕ) → List (List ℕ)
in_front b [] = (b ∷ []) ∷ []
in_front b (piece ∷ rest) = (b ∷ piece) ∷ rest

-- The bytes cut after each newline (0x0A). Each piece has its newline, but for a last one that has none.
unfoldable pub pieces : List ℕ → List (List ℕ)
pieces [] = []
pieces (b ∷ bytes) = if b == 10 then (b ∷ []) ∷ pieces bytes else in_front b (pieces bytes)

-- a piece without its newline
abbrev pub line_of : List ℕ → List ℕ
line_of piece = take_while (λ b. not (b == 10)) piece

-- The item of a piece that this many bytes of the trace stand before, in a trace of at most `limit` bytes.
-- A line is too long where it has more than `LONGEST_LINE` bytes, so many of them within the limit.
unfoldable pub item_of : ℕ → ℕ → List ℕ → Item
item_of limit before piece =
    if nat_lt LONGEST_LINE (length (line_of piece)) && nat_le (before + LONGEST_LINE) limit then refused LineTooLong
    else (if nat_lt limit (before + length piece) then refused TraceTooLong
    else item_of_line (line_of piece))

-- the items of these pieces
unfoldable pub items_from : ℕ → ℕ → List (List ℕ) → List Item
items_from limit before [] = []
items_from limit before (piece ∷ rest) = item_of limit before piece ∷ items_from limit (before + length piece) rest

-- the items of a trace; what comes after the first refusal never counts
abbrev pub items_of : ℕ → List ℕ → List Item
items_of limit bytes = items_from limit 0 (pieces bytes)
