use Rattle.std.proofs.Common.{arith}
use Rattle.std.specs.Option.{IfSome}
use Rattle.object_table.specs.Chains.{resident_in, with_slots_after}
use Rattle.object_table.specs.Residents.{StrongHoldKept}
use Rattle.object_table.proofs.Paging.{IsPageOf, page_of_used, used_place, used_holds, used_change}
use Rattle.object_table.proofs.pages.Pages.keep.Goals as goal
use Rattle.object_table.proofs.pages.Pages.keep.Goals.{After-index_mut-page}

pub index_mut-page-requires : goal.index_mut-page-requires
index_mut-page-requires c =
    omega (arith, c.self.inside.pages.ok.0, page_of_used c.self.inside.pages.items c.self.inside.count c.args.cell c.self.invariant (rw (← c.self.view_is) at c.requires.in_range))

module _ (c : After-index_mut-page) where
  page : IsPageOf c.self.inside.pages.items c.self.inside.count c.args.cell c.index_mut-page.result.now
  page = record { is = c.self.invariant; in_use = rw (← c.self.view_is) at c.requires.in_range; at = c.index_mut-page.ensures.value }

pub keep-requires-clause-in_range : goal.keep-requires-clause-in_range
keep-requires-clause-in_range c = used_place (page (goal.at.keep-requires-clause-in_range c).After-index_mut-page)

pub keep-requires-clause-strong : goal.keep-requires-clause-strong
keep-requires-clause-strong c =
    used_holds (page (goal.at.keep-requires-clause-strong c).After-index_mut-page) (λ d. IfSome (resident_in d) (StrongHoldKept c.args.kept.now))
    (rw (← c.self.view_is) at c.requires.strong)

pub invariant_of-self : goal.invariant_of-self
invariant_of-self c = (used_change (page (goal.at.invariant_of-self c).After-index_mut-page) (with_slots_after c.args.kept.now) c.keep.new.self c.keep.ensures).0

pub returns : goal.returns
returns c =
    rw (← c.self.view_is) (used_change (page (goal.at.returns c).After-index_mut-page) (with_slots_after c.args.kept.now) c.keep.new.self c.keep.ensures).1
