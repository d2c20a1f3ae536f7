-- A pass is one of some headers in one way at most, so that a struct may keep the fact.
use Rattle.std.proofs.Props.{props}
use Rattle.std.specs.Prelude.{ℕ}
use Rattle.std.specs.declared.option.Option.{Option}
use Rattle.std.specs.declared.option.Option.TheVariants.{Some, None}
use Rattle.header_rule.specs.declared.reach.Reach.{Reach}
use Rattle.header_rule.specs.declared.reach.Reach.TheVariants.{Table, Own}
use Rattle.header_rule.specs.declared.shared_words.SharedWords.{SharedWords}
use Rattle.header_rule.specs.Seats.{ReachesWords}

pub ReachesWords-prop : (t : Option SharedWords) (cells : ℕ) (r : Reach) → IsProp (ReachesWords t cells r)
ReachesWords-prop (Some t) cells (Table s) = Prim.hlevel props
ReachesWords-prop (Some t) cells (Own o) = Prim.hlevel props
ReachesWords-prop None cells (Table s) = Prim.hlevel props
ReachesWords-prop None cells (Own o) = Prim.hlevel props

-- what the check knows of facts, and this
pub ruleset pass_props = (props, ReachesWords-prop)
