use Rattle.object_table.proofs.Tables.{parts_in, edges_are}
use Rattle.object_table.proofs.table.ObjectTable.edges_at.Goals as goal

pub returns : goal.returns
returns c = record { edges = rw (← c.self.view_is, c.edges.ensures) (edges_are (parts_in c.self.inside) c.self.invariant c.args.cell c.at.result.now c.at.ensures) }
