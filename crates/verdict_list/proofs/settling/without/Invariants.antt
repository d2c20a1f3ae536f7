use Rattle.std.proofs.Common.{◌≡◌, not, take, filter}
use Rattle.verdict_list.specs.Settling.{flag_of}
use Rattle.verdict_list.proofs.settling.without.Given as goal

abbrev pub invariant-loop-ownee : goal.invariant-loop-ownee
invariant-loop-ownee l = l.others.items ≡ filter (λ ownee. not (flag_of l.found ownee)) (take l.ownee-index l.ownees)
