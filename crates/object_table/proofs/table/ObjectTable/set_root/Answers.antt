use Rattle.std.proofs.Common.{refl}
use Rattle.graph_meaning.specs.Step.{with_root}
use Rattle.object_table.proofs.Refusals.{root_taken}
use Rattle.object_table.proofs.Tables.{parts_in, table_without_root}
use Rattle.object_table.proofs.table.ObjectTable.set_root.Goals as goal

pub invariant_of-self : goal.invariant_of-self
invariant_of-self c = rw c.remove.ensures (table_without_root (parts_in c.self.inside) c.self.invariant c.args.name.now)

pub returns-in-None-clause-refused : goal.returns-in-None-clause-refused
returns-in-None-clause-refused c = rw c.in-None.is (root_taken c.args.self.now.table c.args.name.now)

pub returns-in-None-clause-set : goal.returns-in-None-clause-set
unfolding with_root
returns-in-None-clause-set c = rw (← c.self.view_is, c.remove.ensures, c.in-None.is) refl
