use Rattle.std.proofs.Common.{◌∙◌, List, map, sym, subst}
use Rattle.std.specs.Prelude.{IfSome, Option}
use Rattle.clap.specs.Words.{Text, first_value, found_of}
use Rattle.settings.specs.declared.settings.Settings.{Settings}
use Rattle.settings.specs.Settings.{IsInRange}
use Rattle.settings.proofs.Ranges.{settings_in_range}
use Rattle.settings.proofs.Taken.{taken_settings}
use Rattle.settings.proofs.settings.settings_of.Goals as goal

pub returns-in-Some-clause-taken : goal.returns-in-Some-clause-taken
returns-in-Some-clause-taken c =
    let words : List Text = map (λ w. w.now) c.args.words.now in
    let m = c.in_ok-matches in
    sym (taken_settings words m.matches m.ensures.taken m.ensures.matches) ∙ (sym c.settings_from.ensures ∙ c.in-Some.is)

pub returns-in-Some-clause-in_range : goal.returns-in-Some-clause-in_range
returns-in-Some-clause-in_range c =
    subst (λ (s : Option Settings). IfSome s IsInRange) (sym c.settings_from.ensures ∙ c.in-Some.is) (settings_in_range (first_value (found_of c.in_ok-matches.matches)))

pub returns-clause-refused : goal.returns-clause-refused
returns-clause-refused c e =
    let words : List Text = map (λ w. w.now) c.args.words.now in
    let m = c.in_ok-matches in
    sym (taken_settings words m.matches m.ensures.taken m.ensures.matches) ∙ (sym c.settings_from.ensures ∙ c.in-None.is)
