use Rattle.std.proofs.Common.{sym}
use Rattle.graph_meaning.specs.Step.{slot_made_weak}
use Rattle.object_table.proofs.Tables.{IsChanged, HasSlotAt, parts_in, slot_of_cell, made_weak}
use Rattle.object_table.proofs.table.ObjectTable.set_weak.Goals as goal
use Rattle.object_table.proofs.table.ObjectTable.set_weak.Goals.{After-at}

module _ (c : After-at) where
  found : HasSlotAt (parts_in c.self.inside) c.self.invariant c.args.at c.args.slot c.in_ok-cell.cell c.at.result.now
  found =
      let in_cell = rw (← c.self.view_is) at c.in_ok-cell.ensures.cell in
      record { in_cell = in_cell; held = c.at.ensures; allowed = rw (← c.self.view_is) at (sym c.in_ok-cell.ensures.refused) }

pub set_slot-requires-clause-a_slot : goal.set_slot-requires-clause-a_slot
set_slot-requires-clause-a_slot c = rw c.at.ensures (slot_of_cell _ _ c.args.at _ _ _ (found (goal.at.set_slot-requires-clause-a_slot c).After-at))

pub slot-held-requires : goal.slot-held-requires
slot-held-requires c = slot_of_cell _ _ c.args.at _ _ _ (found (goal.at.slot-held-requires c).After-at)

-- what the change leaves
module _ (c : goal.After-set_slot) where
  changed : HasSlotAt (parts_in c.self.inside) c.self.invariant c.args.at c.args.slot c.in_ok-cell.cell c.at.result.now →
      IsChanged (parts_in c.self.inside) c.self.invariant c.args.at c.args.slot (slot_made_weak c.args.weak) c.set_slot.new.self.cells
  changed has =
      made_weak (parts_in c.self.inside) c.self.invariant c.args.at c.args.slot c.in_ok-cell.cell c.args.weak c.at.result.now c.slot-held.result
      c.set_slot.new.self.cells has c.slot-held.ensures.found (rw c.at.ensures at c.set_slot.ensures)

pub invariant_of-self : goal.invariant_of-self
invariant_of-self c = (changed c (found (goal.at.invariant_of-self c).After-at)).table

pub returns-clause-changed : goal.returns-clause-changed
returns-clause-changed c = rw (← c.self.view_is) (changed c (found (goal.at.returns-clause-changed c).After-at)).same

pub returns-clause-cells : goal.returns-clause-cells
returns-clause-cells c = rw (← c.self.view_is) (changed c (found (goal.at.returns-clause-cells c).After-at)).cells
