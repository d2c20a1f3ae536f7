use Rattle.std.proofs.Common.{ℕ, ap, ◌∙◌}
use Rattle.std.proofs.lemmas.List.Elements.{All-set}
use Rattle.std.proofs.Math.Seq.{map-set_same}
use Rattle.header_rule.specs.declared.pass.Pass.{Pass}
use Rattle.header_rule.specs.Passes.{IsPassOf}
use Rattle.tests_marking.proofs.headers.meet_with.Goals as goal

pub returns-in-Some : goal.returns-in-Some
returns-in-Some c =
    let items = c.args.passes.now.items in
    let place = c.args.number in
    let met = c.meet_once.ensures in
    let new = c.meet_once.new.pass in
    let passes = All-set (IsPassOf c.args.headers.now) items place new met.0 c.requires.passes.0 in
    let number : Pass → ℕ = λ p. p.number in
    (passes, map-set_same number items place new c.in-Some.pass.now (met.1 ∙ ap number c.in-Some.ensures.value) ∙ c.requires.passes.1)
