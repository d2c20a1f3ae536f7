use Rattle.std.proofs.Common.{arith}
use Rattle.object_table.proofs.Paging.{IsPageOf, page_of_used, used_place, used_put}
use Rattle.object_table.proofs.pages.Pages.put.Goals as goal
use Rattle.object_table.proofs.pages.Pages.put.Goals.{After-index_mut-page}

module _ (c : After-index_mut-page) where
  page : IsPageOf c.self.inside.pages.items c.self.inside.count c.args.cell c.index_mut-page.result.now
  page = record { is = c.self.invariant; in_use = rw (← c.self.view_is) at c.requires; at = c.index_mut-page.ensures.value }

pub index_mut-page-requires : goal.index_mut-page-requires
index_mut-page-requires c = omega (arith, c.self.inside.pages.ok.0, page_of_used c.self.inside.pages.items c.self.inside.count c.args.cell c.self.invariant (rw (← c.self.view_is) at c.requires))

pub put-requires : goal.put-requires
put-requires c = used_place (page (goal.at.put-requires c).After-index_mut-page)

pub invariant_of-self : goal.invariant_of-self
invariant_of-self c = (used_put (page (goal.at.invariant_of-self c).After-index_mut-page) c.args.value c.put.new.self c.put.ensures).0

pub returns : goal.returns
returns c = rw (← c.self.view_is) (used_put (page (goal.at.returns c).After-index_mut-page) c.args.value c.put.new.self c.put.ensures).1
