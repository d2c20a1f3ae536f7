use Rattle.std.proofs.Common.{◌≡◌, length, true, is_some, sym, ap, ◌∙◌, arith}
use Rattle.graph_meaning.specs.Heap.{is_live}
use Rattle.graph_meaning.specs.Step.{slots_of}
use Rattle.object_table.specs.Parts.{placed_of}
use Rattle.object_table.proofs.Refusals.{slot_dead, slot_bad, slot_there}
use Rattle.object_table.proofs.Parts.{stands_found, live_found, id_in-held}
use Rattle.object_table.proofs.Tables.{parts_in, taken_found, slots_of-found}
use Rattle.object_table.proofs.table.ObjectTable.cell_with_slot.Goals as goal
use Rattle.object_table.proofs.table.ObjectTable.cell_with_slot.Goals.{After-slots}

-- no object has the id
pub returns-in_default-clause-refused : goal.returns-in_default-clause-refused
returns-in_default-clause-refused c =
    let dead = live_found (parts_in c.self.inside) c.self.invariant.laid c.args.at ∙ ap is_some (sym c.find.ensures ∙ c.in_default.is) in
    rw (← c.self.view_is, c.number.ensures.value) (sym (slot_dead (placed_of (parts_in c.self.inside)).table c.args.at c.args.slot dead))

pub at-requires : goal.at-requires
at-requires c = taken_found (parts_in c.self.inside) c.self.invariant c.args.at c.in-Some.cell (sym c.find.ensures ∙ c.in-Some.is)

module _ (c : After-slots) where
  -- the object is live, and has so many slots
  live : is_live (placed_of (parts_in c.self.inside)).table c.args.at ≡ true
  live = live_found (parts_in c.self.inside) c.self.invariant.laid c.args.at ∙ ap is_some (sym c.find.ensures ∙ c.in-Some.is)

  long : slots_of (placed_of (parts_in c.self.inside)).table c.args.at ≡ length c.at.result.now.slots
  long = slots_of-found (parts_in c.self.inside) c.self.invariant c.args.at c.in-Some.cell c.at.result.now (sym c.find.ensures ∙ c.in-Some.is) c.at.ensures

-- it has no such slot
pub returns-then-slot-slots-clause-refused : goal.returns-then-slot-slots-clause-refused
returns-then-slot-slots-clause-refused c =
    let at = (goal.at.returns-then-slot-slots-clause-refused c).After-slots in
    rw (← c.self.view_is) (sym (slot_bad (placed_of (parts_in c.self.inside)).table c.args.at c.args.slot (live at) (rw (long at) (omega arith))))

pub returns-clause-refused : goal.returns-clause-refused
returns-clause-refused c =
    let at = (goal.at.returns-clause-refused c).After-slots in
    rw (← c.self.view_is) (sym (slot_there (placed_of (parts_in c.self.inside)).table c.args.at c.args.slot (live at) (rw (long at) (omega arith))))

pub returns-clause-cell : goal.returns-clause-cell
returns-clause-cell c =
    rw (← c.self.view_is)
    (id_in-held (parts_in c.self.inside) c.self.invariant.laid c.in-Some.cell
    ∙ stands_found (parts_in c.self.inside) c.self.invariant.laid c.args.at c.in-Some.cell (sym c.find.ensures ∙ c.in-Some.is))
