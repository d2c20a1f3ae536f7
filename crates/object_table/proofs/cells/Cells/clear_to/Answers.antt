use Rattle.std.proofs.Common.{map, sym, ◌∙◌, ap, arith}
use Rattle.object_table.specs.Chains.{resident_in}
use Rattle.object_table.proofs.Chains.{cleared_residents, holders_residents}
use Rattle.object_table.proofs.Housing.{cleared_housed}
use Rattle.object_table.proofs.cells.Cells.clear_to.Goals as goal

pub clear_slots-requires : goal.clear_slots-requires
clear_slots-requires c = omega (arith, holders_residents c.args.marked.now c.self.inside.pages.cells, rw (← c.self.view_is) at c.requires)

pub invariant_of-self : goal.invariant_of-self
invariant_of-self c = rw c.clear_slots.ensures.cleared (cleared_housed c.args.marked.now c.self.inside.pages.cells c.self.inside.first_empty c.self.invariant)

pub returns-clause-cleared : goal.returns-clause-cleared
returns-clause-cleared c = rw (← c.self.view_is) (ap (map resident_in) c.clear_slots.ensures.cleared ∙ cleared_residents c.args.marked.now c.self.inside.pages.cells)

pub returns-clause-count : goal.returns-clause-count
returns-clause-count c = rw (← c.self.view_is) (c.clear_slots.ensures.count ∙ sym (holders_residents c.args.marked.now c.self.inside.pages.cells))
