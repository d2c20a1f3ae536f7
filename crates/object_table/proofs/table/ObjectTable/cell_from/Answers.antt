use Rattle.std.proofs.Common.{is_some, sym, ap, ◌∙◌}
use Rattle.object_table.proofs.Parts.{cell_found, live_found}
use Rattle.object_table.proofs.Tables.{parts_in}
use Rattle.object_table.proofs.table.ObjectTable.cell_from.Goals as goal

pub returns-clause-cell : goal.returns-clause-cell
returns-clause-cell c = rw (← c.self.view_is) (cell_found (parts_in c.self.inside) c.self.invariant.laid c.args.id c.find_from.result c.find_from.ensures)

pub returns-clause-live : goal.returns-clause-live
returns-clause-live c = rw (← c.self.view_is) (ap is_some c.find_from.ensures ∙ sym (live_found (parts_in c.self.inside) c.self.invariant.laid c.args.id))
