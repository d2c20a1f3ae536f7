use Rattle.std.proofs.Common.{take}
use Rattle.verdict_list.specs.Askings.{asked_in}
use Rattle.verdict_list.specs.Settling.{HasAsked}
use Rattle.verdict_list.proofs.settling.ask_owners.Given as goal

abbrev pub invariant-loop-pair : goal.invariant-loop-pair
invariant-loop-pair l = HasAsked l.table l.roles (take l.pair-index l.pairs) (asked_in l.asking)
