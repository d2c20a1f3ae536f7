-- The command line as clap sees it: five options of one value each, and nothing else.
use Rattle.std.specs.Prelude.{◌&&◌, Bool, not, List, Option, Some, codes}
use Rattle.clap.specs.Words.{App, Rule, Text, first_of, fault_of, matches_of, new_app, new_rule, with_rule}
use Rattle.clap.specs.Walk.{is_empty}
use Rattle.clap.specs.declared.builder.action.ArgAction.TheVariants.{Set}

-- the option that is written `--name`; its value follows as a word, or after `=`
abbrev pub option_of : Text → Rule
option_of name = record (new_rule name) { long = Some name; action = Some Set }

abbrev pub command : App
command =
    with_rule (with_rule (with_rule (with_rule (with_rule (new_app (codes "gcaudit"))
    (option_of (codes "workers")))
    (option_of (codes "paths")))
    (option_of (codes "react")))
    (option_of (codes "gen")))
    (option_of (codes "size"))

-- There is a word, the program's name, and clap finds no fault in the others: each option at most once, each with a value, and
-- no other word.
unfoldable pub is_well_formed : List Text → Bool
is_well_formed words = not (is_empty words) && is_empty (fault_of command words)

-- the value that the words give the option of this name
unfoldable pub option_value : Text → List Text → Option Text
option_value name words = first_of name (matches_of command words)
