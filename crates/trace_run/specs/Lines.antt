-- The whole lines of a trace.
use Rattle.std.specs.Prelude.{ℕ, ◌==◌, List, filter, Bool}
use Rattle.std.specs.List.{list_any, concat}
use Rattle.trace_reader.specs.Items.{pieces}

-- whether a piece of a trace ends in a newline
abbrev pub is_whole : List ℕ → Bool
is_whole piece = list_any (λ b. b == 10) piece

-- the bytes up to the last newline
unfoldable pub whole_lines : List ℕ → List ℕ
whole_lines bytes = concat (filter is_whole (pieces bytes))
