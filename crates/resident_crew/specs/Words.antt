-- Which words are taken, and how many workers they ask for.
use Rattle.std.specs.Prelude.{ℕ, List, [], ◌∷◌, if◌then◌else◌, Option, None, Some, codes}
use Rattle.std.specs.Str.{bytes_eq}
use Rattle.heap_base.specs.declared.limits.TheConstants.{MOST_WORKERS}
use Rattle.settings.specs.declared.numbers.TheConstants.{LEAST_WORKERS, USUAL_WORKERS}
use Rattle.settings.specs.Numbers.{number_by}

-- How many workers the words ask for, the program's name first, and none where the words are refused.
abbrev pub workers_by : List (List ℕ) → Option ℕ
workers_by (name ∷ []) = Some USUAL_WORKERS
workers_by (name ∷ option ∷ number ∷ []) = if bytes_eq option (codes "--workers") then number_by LEAST_WORKERS MOST_WORKERS number else None
workers_by words = None
