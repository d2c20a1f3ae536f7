-- Which words are taken, and how many paths they ask for.
use Rattle.std.specs.Prelude.{ℕ, List, [], ◌∷◌, length, nat_le, if◌then◌else◌, Option, None, Some}
use Rattle.heap_base.specs.declared.limits.TheConstants.{USUAL_PATHS}
use Rattle.settings.specs.declared.numbers.TheConstants.{MOST_PATHS}
use Rattle.settings.specs.Numbers.{number_by}
use Rattle.report_check.specs.declared.words.TheConstants.{MOST_DIGITS}

-- the number of paths that the text says, where it is one and has few digits; leading zeros are taken
abbrev pub paths_in : List ℕ → Option ℕ
paths_in text = if nat_le (length text) MOST_DIGITS then number_by 0 MOST_PATHS text else None

-- How many paths the words ask for, the program's name first, then the names of the trace and of the report, and none where the words are
-- refused.
abbrev pub paths_by : List (List ℕ) → Option ℕ
paths_by (program ∷ trace ∷ report ∷ []) = Some USUAL_PATHS
paths_by (program ∷ trace ∷ report ∷ paths ∷ []) = paths_in paths
paths_by words = None
