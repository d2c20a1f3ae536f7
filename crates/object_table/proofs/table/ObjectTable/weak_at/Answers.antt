use Rattle.object_table.proofs.Parts.{length-slots_in}
use Rattle.object_table.proofs.Tables.{parts_in, slot_weak}
use Rattle.object_table.proofs.table.ObjectTable.weak_at.Goals as goal

pub slot-slot-requires : goal.slot-slot-requires
slot-slot-requires c = rw (length-slots_in (parts_in c.self.inside) c.self.invariant.laid c.args.cell c.at.result.now c.at.ensures) at (rw (← c.self.view_is) at c.requires.a_slot)

pub returns : goal.returns
returns c =
    record { weak = rw (← c.self.view_is) (slot_weak (parts_in c.self.inside) c.self.invariant c.args.cell c.args.slot c.at.result.now c.slot-slot.result c.at.ensures c.slot-slot.ensures.found) }
