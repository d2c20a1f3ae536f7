use Rattle.std.proofs.Common.{sym, ◌∙◌}
use Rattle.object_table.proofs.Parts.{length-slots_in}
use Rattle.object_table.proofs.Tables.{parts_in}
use Rattle.object_table.proofs.table.ObjectTable.slots_at.Goals as goal

pub returns : goal.returns
returns c = record { count = rw (← c.self.view_is) (c.slots.ensures.count ∙ sym (length-slots_in (parts_in c.self.inside) c.self.invariant.laid c.args.cell c.at.result.now c.at.ensures)) }
