use Rattle.std.proofs.Common.{arith}
use Rattle.object_table.specs.Chains.{HasSlot, with_slot_put}
use Rattle.object_table.proofs.Paging.{IsPageOf, page_of_used, used_place, used_holds, used_change}
use Rattle.object_table.proofs.pages.Pages.set_slot.Goals as goal
use Rattle.object_table.proofs.pages.Pages.set_slot.Goals.{After-index_mut-page}

module _ (c : After-index_mut-page) where
  page : IsPageOf c.self.inside.pages.items c.self.inside.count c.args.cell c.index_mut-page.result.now
  page = record { is = c.self.invariant; in_use = rw (← c.self.view_is) at c.requires.in_range; at = c.index_mut-page.ensures.value }

pub set_slot-requires-clause-a_slot : goal.set_slot-requires-clause-a_slot
set_slot-requires-clause-a_slot c =
    used_holds (page (goal.at.set_slot-requires-clause-a_slot c).After-index_mut-page) (HasSlot c.args.slot) (rw (← c.self.view_is) at c.requires.a_slot)

pub set_slot-requires-clause-in_range : goal.set_slot-requires-clause-in_range
set_slot-requires-clause-in_range c = used_place (page (goal.at.set_slot-requires-clause-in_range c).After-index_mut-page)

pub index_mut-page-requires : goal.index_mut-page-requires
index_mut-page-requires c =
    omega (arith, c.self.inside.pages.ok.0, page_of_used c.self.inside.pages.items c.self.inside.count c.args.cell c.self.invariant (rw (← c.self.view_is) at c.requires.in_range))

pub invariant_of-self : goal.invariant_of-self
invariant_of-self c = (used_change (page (goal.at.invariant_of-self c).After-index_mut-page) (with_slot_put c.args.slot c.args.value) c.set_slot.new.self c.set_slot.ensures).0

pub returns : goal.returns
returns c =
    rw (← c.self.view_is)
    (used_change (page (goal.at.returns c).After-index_mut-page) (with_slot_put c.args.slot c.args.value) c.set_slot.new.self c.set_slot.ensures).1
