use Rattle.verdict_list.specs.Askings.{asked_in}
use Rattle.verdict_list.proofs.Pairs.{asked-next}
use Rattle.verdict_list.proofs.settling.Asking.turn_to.Goals as goal

pub returns-clause-asked : goal.returns-clause-asked
returns-clause-asked c pairs was =
    asked-next c.args.table.now c.args.roles.now pairs (asked_in c.ask.new.self) (c.in_ok-ask.ensures.asked pairs was) c.args.owner c.in_ok-ask.ensures.none
