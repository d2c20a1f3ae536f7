use Rattle.object_table.proofs.Parts.{is_placed}
use Rattle.object_table.proofs.Tables.{parts_in}
use Rattle.object_table.proofs.table.ObjectTable.cells.Goals as goal

pub returns-clause-placed : goal.returns-clause-placed
returns-clause-placed c = rw (← c.self.view_is) (is_placed (parts_in c.self.inside) c.self.invariant.laid)
