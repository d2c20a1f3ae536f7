use Rattle.std.proofs.Common.{arith}
use Rattle.object_table.proofs.Tables.{parts_in}
use Rattle.object_table.proofs.Cleared.{cleared_is, cleared_cells, table_cleared, slots_fit, holders_counted}
use Rattle.object_table.proofs.table.ObjectTable.clear_to.Goals as goal

pub clear_to-slots-requires : goal.clear_to-slots-requires
clear_to-slots-requires c = record { few = slots_fit (parts_in c.self.inside) c.self.invariant c.args.marked.now }

pub overflow_add-result : goal.overflow_add-result
overflow_add-result c = omega (arith, c.clear_to-slots.ensures.count, slots_fit (parts_in c.self.inside) c.self.invariant c.args.marked.now, c.clear_to-roots.ensures.few)

pub invariant_of-self : goal.invariant_of-self
invariant_of-self c = rw (c.clear_to-slots.ensures.cleared, c.clear_to-roots.ensures.cleared) (table_cleared (parts_in c.self.inside) c.self.invariant c.args.marked.now)

pub returns-clause-cleared : goal.returns-clause-cleared
returns-clause-cleared c = rw (← c.self.view_is, c.clear_to-slots.ensures.cleared, c.clear_to-roots.ensures.cleared) (cleared_is (parts_in c.self.inside) c.self.invariant.laid c.args.marked.now)

pub returns-clause-count : goal.returns-clause-count
returns-clause-count c =
    rw (← c.self.view_is)
    (holders_counted (parts_in c.self.inside) c.self.invariant c.args.marked.now c.clear_to-slots.result c.clear_to-roots.result
    c.clear_to-slots.ensures.count c.clear_to-roots.ensures.count)

pub returns-clause-cells : goal.returns-clause-cells
returns-clause-cells c = rw (← c.self.view_is, c.clear_to-slots.ensures.cleared) (cleared_cells (parts_in c.self.inside) c.self.invariant.laid c.args.marked.now)
