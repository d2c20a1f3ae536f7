use Rattle.object_table.specs.Chains.{with_slot_put}
use Rattle.object_table.proofs.Housing.{put_alone, slot_housed, slot_is}
use Rattle.object_table.proofs.cells.Cells.set_slot.Goals as goal

pub invariant_of-self : goal.invariant_of-self
invariant_of-self c =
    slot_housed c.self.inside.pages.cells c.self.inside.first_empty c.args.cell c.args.slot c.args.value c.set_slot.new.self.cells c.self.invariant
    (rw (← c.self.view_is) at c.requires.taken)
    (put_alone c.self.inside.pages c.set_slot.new.self c.args.cell (with_slot_put c.args.slot c.args.value) c.set_slot.ensures)

pub returns : goal.returns
returns c =
    rw (← c.self.view_is)
    (slot_is c.self.inside.pages.cells c.args.cell c.args.slot c.args.value c.set_slot.new.self.cells
    (put_alone c.self.inside.pages c.set_slot.new.self c.args.cell (with_slot_put c.args.slot c.args.value) c.set_slot.ensures))
