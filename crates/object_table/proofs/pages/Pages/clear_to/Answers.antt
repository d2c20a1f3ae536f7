use Rattle.std.proofs.Common.{◌≡◌, arith}
use Rattle.object_table.specs.Chains.{with_slots_cleared, holders_at}
use Rattle.object_table.proofs.Paging.{IsPageOf, page_of_used, used_place, used_change, used_holds_back}
use Rattle.object_table.proofs.pages.Pages.clear_to.Goals as goal
use Rattle.object_table.proofs.pages.Pages.clear_to.Goals.{After-index_mut-page}

pub index_mut-page-requires : goal.index_mut-page-requires
index_mut-page-requires c = omega (arith, c.self.inside.pages.ok.0, page_of_used c.self.inside.pages.items c.self.inside.count c.args.cell c.self.invariant (rw (← c.self.view_is) at c.requires))

module _ (c : After-index_mut-page) where
  page : IsPageOf c.self.inside.pages.items c.self.inside.count c.args.cell c.index_mut-page.result.now
  page = record { is = c.self.invariant; in_use = rw (← c.self.view_is) at c.requires; at = c.index_mut-page.ensures.value }

pub clear_to-requires : goal.clear_to-requires
clear_to-requires c = used_place (page (goal.at.clear_to-requires c).After-index_mut-page)

pub invariant_of-self : goal.invariant_of-self
invariant_of-self c =
    (used_change (page (goal.at.invariant_of-self c).After-index_mut-page) (with_slots_cleared c.args.marked.now) c.clear_to.new.self c.clear_to.ensures.cleared).0

pub returns-clause-cleared : goal.returns-clause-cleared
returns-clause-cleared c =
    rw (← c.self.view_is)
    (used_change (page (goal.at.returns-clause-cleared c).After-index_mut-page) (with_slots_cleared c.args.marked.now) c.clear_to.new.self c.clear_to.ensures.cleared).1

pub returns-clause-count : goal.returns-clause-count
returns-clause-count c =
    rw (← c.self.view_is)
    (used_holds_back (page (goal.at.returns-clause-count c).After-index_mut-page) (λ e. c.clear_to.result ≡ holders_at c.args.marked.now e)
    c.clear_to.ensures.count)
