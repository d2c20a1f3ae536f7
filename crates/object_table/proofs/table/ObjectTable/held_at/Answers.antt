use Rattle.object_table.proofs.Parts.{length-slots_in}
use Rattle.object_table.proofs.Tables.{parts_in, slot_holds, slot_in_a_cell}
use Rattle.object_table.proofs.table.ObjectTable.held_at.Goals as goal

pub slot-value-requires : goal.slot-value-requires
slot-value-requires c = rw (length-slots_in (parts_in c.self.inside) c.self.invariant.laid c.args.cell c.at.result.now c.at.ensures) at (rw (← c.self.view_is) at c.requires.a_slot)

pub returns-clause-holds : goal.returns-clause-holds
returns-clause-holds c =
    rw (← c.self.view_is) (slot_holds (parts_in c.self.inside) c.self.invariant c.args.cell c.args.slot c.at.result.now c.slot-value.result c.at.ensures c.slot-value.ensures.found)

pub returns-clause-in_a_cell : goal.returns-clause-in_a_cell
returns-clause-in_a_cell c =
    rw (← c.self.view_is) (slot_in_a_cell (parts_in c.self.inside) c.self.invariant c.args.cell c.args.slot c.at.result.now c.slot-value.result c.at.ensures c.slot-value.ensures.found)
