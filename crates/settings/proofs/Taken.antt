-- The settings are read of clap's matches.
use Rattle.std.proofs.Common.{◌≡◌, ◌∙◌, List, true, ap}
use Rattle.clap.specs.Words.{Text, first_of, first_value, found_of, matches_of, rows_of}
use Rattle.clap.specs.declared.parser.matches.ArgMatches.{ArgMatches}
use Rattle.clap.proofs.WalkLemmas.{first_value-rows}
use Rattle.settings.specs.Command.{command, is_well_formed, option_value}
use Rattle.settings.specs.Settings.{OptionValues, settings_by, settings_from}

-- the settings depend on nothing but the values that are given
same_settings : (f g : OptionValues) → ((name : Text) → f name ≡ g name) → settings_from f ≡ settings_from g
same_settings f g same = λ i. settings_from (λ name. same name i)

found_value : (words : List Text) (m : ArgMatches) → rows_of (found_of m) ≡ matches_of command words → (name : Text) → first_value (found_of m) name ≡ option_value name words
unfolding option_value
found_value words m rows name = first_value-rows (found_of m) name ∙ ap (first_of name) rows

pub taken_settings : (words : List Text) (m : ArgMatches) → is_well_formed words ≡ true → rows_of (found_of m) ≡ matches_of command words
    → settings_from (first_value (found_of m)) ≡ settings_by words
taken_settings words m taken rows = rw taken (same_settings (first_value (found_of m)) (λ name. option_value name words) (found_value words m rows))
