use Rattle.std.proofs.lemmas.List.{map-set}
use Rattle.object_table.specs.declared.cell.Cell.TheVariants.{Empty}
use Rattle.object_table.specs.Chains.{resident_in}
use Rattle.object_table.proofs.Freed.{freed_housed}
use Rattle.object_table.proofs.cells.Cells.free.Goals as goal

pub invariant_of-self : goal.invariant_of-self
invariant_of-self c = rw c.put.ensures (freed_housed c.self.inside.pages.cells c.self.inside.first_empty c.args.cell c.self.invariant (rw (← c.self.view_is) at c.requires))

pub returns : goal.returns
returns c = rw (← c.self.view_is, c.put.ensures) (map-set resident_in c.self.inside.pages.cells c.args.cell (Empty c.self.inside.first_empty))
