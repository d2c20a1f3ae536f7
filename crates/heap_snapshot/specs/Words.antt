-- What a run is asked for.
use Rattle.std.specs.Prelude.{ℕ, List, [], ◌∷◌, codes, if◌then◌else◌, Option, None, Some}
use Rattle.std.specs.Str.{bytes_eq}
use Rattle.heap_snapshot.specs.declared.run.Command.{Command}
use Rattle.heap_snapshot.specs.declared.run.Command.TheVariants.{FromTrace, ToTrace}

-- the line that is written where the words are refused
abbrev pub usage_line : List ℕ
usage_line = codes "usage: gcsnap from-trace|to-trace\n"

abbrev pub command_named : List ℕ → Option Command
command_named word =
    if bytes_eq word (codes "from-trace") then Some FromTrace
    else (if bytes_eq word (codes "to-trace") then Some ToTrace else None)

-- the command that these words ask for, of which the first is the program's name
abbrev pub command_in : List (List ℕ) → Option Command
command_in [] = None
command_in (name ∷ []) = None
command_in (name ∷ word ∷ []) = command_named word
command_in (name ∷ word ∷ other ∷ words) = None
