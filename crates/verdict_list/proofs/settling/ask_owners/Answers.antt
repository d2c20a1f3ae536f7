use Rattle.std.proofs.Common.{take, sym, ap, subst, ◌∙◌, arith}
use Rattle.std.proofs.lemmas.List.{take_more, take_all}
use Rattle.verdict_list.specs.declared.settling.Ownership.{Ownership}
use Rattle.verdict_list.specs.Askings.{asked_in}
use Rattle.verdict_list.specs.Settling.{HasAsked, is_found_in}
use Rattle.verdict_list.proofs.Pairs.{asked-all}
use Rattle.verdict_list.proofs.settling.ask_owners.Goals as goal

pub loop-pair-preserved : goal.loop-pair-preserved
loop-pair-preserved c =
    let i = c.loop-pair.pair-index in
    let none : Ownership = record { owner = 0; ownee = 0 } in
    subst (λ pairs. HasAsked c.args.table.now c.args.roles.now pairs (asked_in c.take.new.self))
    (sym (take_more c.args.pairs.now i none c.loop-pair-test.true)) (c.in_ok-take.ensures.asked (take i c.args.pairs.now) c.loop-pair.invariant)

pub returns-clause-each : goal.returns-clause-each
returns-clause-each c =
    (c.in_ok-ask.ensures.asked (take c.loop-pair.pair-index c.args.pairs.now) c.loop-pair.invariant).each

pub returns-clause-found : goal.returns-clause-found
returns-clause-found c x =
    let p = c.args.table.now in
    let r = c.args.roles.now in
    let pairs = take c.loop-pair.pair-index c.args.pairs.now in
    let asked = c.in_ok-ask.ensures.asked pairs c.loop-pair.invariant in
    asked-all p r pairs (asked_in c.ask.new.self) asked c.in_ok-ask.ensures.none x
    ∙ ap (λ ps. is_found_in p r ps x) (take_all c.loop-pair.pair-index c.args.pairs.now (omega arith))
