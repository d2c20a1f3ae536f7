use Rattle.object_table.proofs.Tables.{parts_in}
use Rattle.object_table.proofs.Shown.{table_shown}
use Rattle.object_table.proofs.table.ObjectTable.view.Goals as goal

pub returns : goal.returns
returns c = record { view = rw (← c.self.view_is) (table_shown (parts_in c.self.inside) c.in_ok-objects.objects c.in_ok-roots.roots c.in_ok-objects.ensures c.in_ok-roots.ensures) }
