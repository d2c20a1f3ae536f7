use Rattle.object_table.proofs.Tables.{table_nothing}
use Rattle.object_table.proofs.table.ObjectTable.make.Goals as goal

pub invariant_of-result : goal.invariant_of-result
invariant_of-result c = rw (c.make.ensures, c.make-2.ensures, c.make-3.ensures, c.make-4.ensures) (table_nothing c.args.most c.requires.possible)
