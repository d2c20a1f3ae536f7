use Rattle.std.proofs.Common.{◌-◌, arith}
use Rattle.object_table.specs.declared.cell.Cell.TheVariants.{Empty}
use Rattle.std.specs.Prelude.{None}
use Rattle.object_table.proofs.Paging.{IsPageOf, last_used, page_of_used, used_place, popped}
use Rattle.object_table.proofs.pages.Pages.pop.Goals as goal

pub index_mut-page-requires : goal.index_mut-page-requires
index_mut-page-requires c =
    let last = last_used c.self.inside.pages.items c.self.inside.count c.self.invariant (rw (← c.self.view_is) at c.requires) in
    omega (arith, c.self.inside.pages.ok.0, page_of_used c.self.inside.pages.items c.self.inside.count (c.self.inside.count - 1) c.self.invariant last)

pub put-requires : goal.put-requires
put-requires c =
    let last = last_used c.self.inside.pages.items c.self.inside.count c.self.invariant (rw (← c.self.view_is) at c.requires) in
    let u : IsPageOf c.self.inside.pages.items c.self.inside.count (c.self.inside.count - 1) c.index_mut-page.result.now =
    record { is = c.self.invariant; in_use = last; at = c.index_mut-page.ensures.value } in
    used_place u

pub invariant_of-self : goal.invariant_of-self
invariant_of-self c =
    (popped c.self.inside.pages.items c.self.inside.count c.index_mut-page.result.now c.put.new.self (Empty None) c.self.invariant
    (rw (← c.self.view_is) at c.requires) c.index_mut-page.ensures.value c.put.ensures).0

pub returns : goal.returns
returns c =
    rw (← c.self.view_is)
    (popped c.self.inside.pages.items c.self.inside.count c.index_mut-page.result.now c.put.new.self (Empty None) c.self.invariant
    (rw (← c.self.view_is) at c.requires) c.index_mut-page.ensures.value c.put.ensures).1
