use Rattle.std.proofs.Common.{arith}
use Rattle.object_table.proofs.Freed.{none_before}
use Rattle.object_table.proofs.ids.Ids.first_above.Goals as goal

pub returns-else-number-clause-before : goal.returns-else-number-clause-before
returns-else-number-clause-before c =
    none_before c.args.self.now c.loop-place.place c.args.number c.index.result.now c.requires (omega arith) (rw (← c.self.view_is) (omega arith)) (rw (← c.self.view_is) c.index.ensures) (omega arith)
