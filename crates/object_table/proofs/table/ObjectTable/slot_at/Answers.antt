use Rattle.std.proofs.Common.{is_some, sym, ap, ◌∙◌}
use Rattle.object_table.proofs.Parts.{length-slots_in}
use Rattle.object_table.proofs.Tables.{parts_in, slot_holds, slot_in_a_cell, edge_strong, edge_weak}
use Rattle.object_table.proofs.table.ObjectTable.slot_at.Goals as goal

pub slot-slot-requires : goal.slot-slot-requires
slot-slot-requires c = rw (length-slots_in (parts_in c.self.inside) c.self.invariant.laid c.args.cell c.at.result.now c.at.ensures) at (rw (← c.self.view_is) at c.requires.a_slot)

-- a weak slot is no edge
pub returns-then-slot-clause-leads : goal.returns-then-slot-clause-leads
returns-then-slot-clause-leads c =
    rw (← c.self.view_is) (sym (edge_weak (parts_in c.self.inside) c.self.invariant c.args.cell c.args.slot c.at.result.now c.slot-slot.result c.at.ensures c.slot-slot.ensures.found c.if-slot.true))

pub returns-then-slot-clause-in_a_cell : goal.returns-then-slot-clause-in_a_cell
returns-then-slot-clause-in_a_cell c =
    rw (← c.self.view_is)
    (sym (ap is_some
    (edge_weak (parts_in c.self.inside) c.self.invariant c.args.cell c.args.slot c.at.result.now c.slot-slot.result c.at.ensures
    c.slot-slot.ensures.found c.if-slot.true)))

pub returns-else-slot-clause-leads : goal.returns-else-slot-clause-leads
returns-else-slot-clause-leads c =
    rw (← c.self.view_is)
    (slot_holds (parts_in c.self.inside) c.self.invariant c.args.cell c.args.slot c.at.result.now c.slot-slot.result c.at.ensures c.slot-slot.ensures.found
    ∙ sym (edge_strong (parts_in c.self.inside) c.self.invariant c.args.cell c.args.slot c.at.result.now c.slot-slot.result c.at.ensures c.slot-slot.ensures.found c.if-slot.false))

pub returns-else-slot-clause-in_a_cell : goal.returns-else-slot-clause-in_a_cell
returns-else-slot-clause-in_a_cell c =
    rw (← c.self.view_is)
    (slot_in_a_cell (parts_in c.self.inside) c.self.invariant c.args.cell c.args.slot c.at.result.now c.slot-slot.result c.at.ensures c.slot-slot.ensures.found
    ∙ sym (ap is_some (edge_strong (parts_in c.self.inside) c.self.invariant c.args.cell c.args.slot c.at.result.now c.slot-slot.result c.at.ensures c.slot-slot.ensures.found c.if-slot.false)))
