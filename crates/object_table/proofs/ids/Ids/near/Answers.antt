use Rattle.std.proofs.Common.{◌∙◌, arith}
use Rattle.object_table.proofs.Lookups.{found_within}
use Rattle.object_table.proofs.ids.Ids.near.Goals as goal

pub returns-clause-same : goal.returns-clause-same
returns-clause-same c =
    rw (c.deref.ensures.value ∙ c.self.view_is) (found_within c.args.self.now c.args.number c.begin-begin.result c.end-end.result (omega arith) c.begin-begin.ensures.below c.end-end.ensures.above)
