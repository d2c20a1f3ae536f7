use Rattle.std.proofs.Common.{◌≡◌, take, filter}
use Rattle.std.specs.Option.{is_some}
use Rattle.path_cert.specs.Levels.{level_in}
use Rattle.verdict_list.proofs.unowned.with_level.Given as goal

abbrev pub invariant-loop-ownee : goal.invariant-loop-ownee
invariant-loop-ownee l = l.met.items ≡ filter (λ ownee. is_some (level_in l.levels ownee)) (take l.ownee-index l.ownees)
