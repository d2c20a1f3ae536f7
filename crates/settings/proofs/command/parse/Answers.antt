use Rattle.std.proofs.Common.{◌≡◌, ◌≢◌, ◌∙◌, [], List, subst, sym, map, length, true, arith}
use Rattle.std.proofs.lemmas.List.{length-map}
use Rattle.std.proofs.lemmas.Bool.{and_parts}
use Rattle.std.proofs.lemmas.Bool.Decides.{nat_tests}
use Rattle.clap.specs.Words as clap
use Rattle.clap.specs.Words.{App, HasKind, Text, fault_of, found_of, is_simple_and_free, kind_of, matches_of, rows_of}
use Rattle.clap.specs.declared.error.kind.ErrorKind.TheVariants.{OutOfMemory}
use Rattle.settings.specs.declared.settings.SettingsError.TheVariants.{Usage}
use Rattle.settings.specs.Command.{command}
use Rattle.settings.proofs.Words.{err_gives, fault_refused, is_simple, no_fault_taken, none_refused, not_both}
use Rattle.settings.proofs.command.parse.Goals as goal

pub returns-then-is_empty-clause-refused : goal.returns-then-is_empty-clause-refused
returns-then-is_empty-clause-refused c e =
    let words : List Text = map (λ w. w.now) c.args.words.now in
    let none : length c.args.words.now ≡ 0 = grind (arith, nat_tests, c.is_empty.ensures, c.if-is_empty.true) in
    none_refused words (length-map c.args.words.now (λ w. w.now) ∙ none)

pub returns-in_err-matches-clause-refused : goal.returns-in_err-matches-clause-refused
returns-in_err-matches-clause-refused c e =
    let words : List Text = map (λ w. w.now) c.args.words.now in
    let from = c.from_residual-in_err-matches.ensures.1 in
    let error = c.in_err-matches.field-0.0 in
    let other : kind_of error ≢ OutOfMemory = λ memory. not_both ((err_gives c.from_residual-in_err-matches.result _ Usage e from).0 memory) in
    let has : HasKind (fault_of command words) error =
    subst (λ (a : App). is_simple_and_free a ≡ true → HasKind (fault_of a words) error) c.in_ok-command.ensures c.in_err-matches.ensures.kinds is_simple in
    fault_refused words error other has

pub returns-clause-taken : goal.returns-clause-taken
returns-clause-taken c =
    let words : List Text = map (λ w. w.now) c.args.words.now in
    let some : length c.args.words.now ≢ 0 = grind (arith, nat_tests, c.is_empty.ensures, c.if-is_empty.false) in
    let none : fault_of command words ≡ [] =
    subst (λ (a : App). is_simple_and_free a ≡ true → fault_of a words ≡ []) c.in_ok-command.ensures c.in_ok-matches.ensures.kinds is_simple in
    no_fault_taken words (λ z. some (sym (length-map c.args.words.now (λ w. w.now)) ∙ z)) none

pub returns-clause-matches : goal.returns-clause-matches
returns-clause-matches c =
    let words : List Text = map (λ w. w.now) c.args.words.now in
    let Finds : App → Type 0 = λ a. rows_of (found_of c.in_ok-matches.matches) ≡ matches_of a words in
    subst (λ (a : App). clap.is_simple a ≡ true → Finds a) c.in_ok-command.ensures (λ simple. (c.in_ok-matches.ensures.matches simple).0) (and_parts (clap.is_simple command) _ is_simple).0
