use Rattle.std.proofs.Common.{arith}
use Rattle.object_table.proofs.Paging.{IsPageOf, page_of_used, used_place, used_read}
use Rattle.object_table.proofs.pages.Pages.at.Goals as goal
use Rattle.object_table.proofs.pages.Pages.at.Goals.{After-index}

pub index-requires : goal.index-requires
index-requires c = omega (arith, c.self.inside.pages.ok.0, page_of_used c.self.inside.pages.items c.self.inside.count c.args.cell c.self.invariant (rw (← c.self.view_is) at c.requires))

module _ (c : After-index) where
  page : IsPageOf c.self.inside.pages.items c.self.inside.count c.args.cell c.index.result.now
  page = record { is = c.self.invariant; in_use = rw (← c.self.view_is) at c.requires; at = c.index.ensures }

pub at-requires : goal.at-requires
at-requires c = used_place (page (goal.at.at-requires c).After-index)

pub returns : goal.returns
returns c = rw (← c.self.view_is) (used_read (page (goal.at.returns c).After-index) c.at.result.now c.at.ensures)
