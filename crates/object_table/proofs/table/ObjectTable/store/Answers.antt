use Rattle.std.proofs.Common.{sym}
use Rattle.std.proofs.lemmas.Result.{err_from_is_err_and}
use Rattle.graph_meaning.specs.Step.{slot_holding}
use Rattle.object_table.specs.Parts.{placed_of}
use Rattle.object_table.proofs.Refusals.{store_by_slot, store_by_target, store_allowed}
use Rattle.object_table.proofs.Tables.{IsChanged, HasSlotAt, parts_in, slot_of_cell, stored}
use Rattle.object_table.proofs.table.ObjectTable.store.Goals as goal
use Rattle.object_table.proofs.table.ObjectTable.store.Goals.{After-at}

pub returns-in_err-cell-clause-refused : goal.returns-in_err-cell-clause-refused
returns-in_err-cell-clause-refused c =
    let p = err_from_is_err_and c.from_residual.result c.from_residual.ensures.1 in
    rw (p.1, p.2) (sym (store_by_slot c.args.self.now.table c.args.at c.args.slot c.args.to _ (sym c.in_err-cell.ensures.refused)))

pub returns-in_err-held-clause-refused : goal.returns-in_err-held-clause-refused
returns-in_err-held-clause-refused c =
    let p = err_from_is_err_and c.from_residual-in_err-held.result c.from_residual-in_err-held.ensures.1 in
    rw (p.1, p.2) (sym (store_by_target c.args.self.now.table c.args.at c.args.slot c.args.to _ (sym c.in_ok-cell.ensures.refused) (sym c.in_err-held.ensures.refused)))

module _ (c : After-at) where
  found : HasSlotAt (parts_in c.self.inside) c.self.invariant c.args.at c.args.slot c.in_ok-cell.cell c.at.result.now
  found =
      let in_cell = rw (← c.self.view_is) at c.in_ok-cell.ensures.cell in
      record { in_cell = in_cell; held = c.at.ensures; allowed = rw (← c.self.view_is) at (sym c.in_ok-cell.ensures.refused) }

pub slot-weak-requires : goal.slot-weak-requires
slot-weak-requires c = slot_of_cell _ _ c.args.at _ _ _ (found (goal.at.slot-weak-requires c).After-at)

pub set_slot-requires-clause-a_slot : goal.set_slot-requires-clause-a_slot
set_slot-requires-clause-a_slot c = rw c.at.ensures (slot_of_cell _ _ c.args.at _ _ _ (found (goal.at.set_slot-requires-clause-a_slot c).After-at))

module _ (c : goal.After-set_slot) where
  -- what the store leaves
  changed : HasSlotAt (parts_in c.self.inside) c.self.invariant c.args.at c.args.slot c.in_ok-cell.cell c.at.result.now →
      IsChanged (parts_in c.self.inside) c.self.invariant c.args.at c.args.slot (slot_holding c.args.to) c.set_slot.new.self.cells
  changed has =
      stored (parts_in c.self.inside) c.self.invariant c.args.at c.args.slot c.in_ok-cell.cell c.args.to c.in_ok-held.held c.at.result.now
      c.slot-weak.result c.set_slot.new.self.cells has c.slot-weak.ensures.found (rw (← c.self.view_is) at c.in_ok-held.ensures.holds)
      (rw (← c.self.view_is) at c.in_ok-held.ensures.taken)
      (store_allowed (placed_of (parts_in c.self.inside)).table c.args.at c.args.slot c.args.to has.allowed (rw (← c.self.view_is) at (sym c.in_ok-held.ensures.refused)))
      (rw c.at.ensures at c.set_slot.ensures)

pub returns-clause-stored : goal.returns-clause-stored
returns-clause-stored c = rw (← c.self.view_is) (changed c (found (goal.at.returns-clause-stored c).After-at)).same

pub returns-clause-cells : goal.returns-clause-cells
returns-clause-cells c = rw (← c.self.view_is) (changed c (found (goal.at.returns-clause-cells c).After-at)).cells

pub invariant_of-self : goal.invariant_of-self
invariant_of-self c = (changed c (found (goal.at.invariant_of-self c).After-at)).table

pub returns-clause-refused : goal.returns-clause-refused
returns-clause-refused c = sym (store_allowed c.args.self.now.table c.args.at c.args.slot c.args.to (sym c.in_ok-cell.ensures.refused) (sym c.in_ok-held.ensures.refused))
