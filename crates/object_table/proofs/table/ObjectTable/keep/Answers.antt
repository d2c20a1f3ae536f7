use Rattle.std.proofs.Common.{◌-◌}
use Rattle.object_table.proofs.AllKept.{same_with_only}
use Rattle.object_table.proofs.Changes.{kept_is, kept_keeps}
use Rattle.object_table.proofs.KeptSlots.{freed_fits, slots_left}
use Rattle.object_table.proofs.Tables.{parts_in, table_kept}
use Rattle.object_table.proofs.StrongSlots.{strong_lead_to_kept}
use Rattle.object_table.proofs.table.ObjectTable.keep.Goals as goal

pub keep-requires : goal.keep-requires
keep-requires c = strong_lead_to_kept (parts_in c.self.inside) c.self.invariant.laid c.args.kept.now (rw (← c.self.view_is) at c.requires.closed)

pub overflow_sub-self : goal.overflow_sub-self
overflow_sub-self c =
    freed_fits (parts_in c.self.inside) c.self.invariant c.args.kept.now c.keep.new.self.cells c.keep.ensures.after c.freed_slots-freed.result c.freed_slots-freed.ensures

pub invariant_of-self : goal.invariant_of-self
invariant_of-self c =
    let parts = parts_in c.self.inside in
    rw c.keep-2.ensures
    (table_kept parts c.self.invariant c.args.kept.now c.keep.new.self.cells c.keep.ensures.count c.keep.ensures.after
    (rw (← c.self.view_is) at c.requires.closed) (c.self.inside.slots - c.freed_slots-freed.result)
    (slots_left parts c.self.invariant c.args.kept.now c.keep.new.self.cells c.keep.ensures.after c.freed_slots-freed.result c.freed_slots-freed.ensures))

-- where all are kept, the table is the one with the kept objects alone
pub returns-then-are_kept-clause-kept : goal.returns-then-are_kept-clause-kept
returns-then-are_kept-clause-kept c = rw (← c.self.view_is) (same_with_only (parts_in c.self.inside) c.self.invariant.laid c.args.kept.now (c.are_kept.ensures.0 c.if-are_kept.true))

pub returns : goal.returns
returns c = record {
  kept = rw (← c.self.view_is, c.keep-2.ensures)
      (kept_is (parts_in c.self.inside) c.self.invariant.laid c.args.kept.now c.keep.new.self.cells c.keep.ensures.after (c.self.inside.slots - c.freed_slots-freed.result));
  cells =
      rw (← c.self.view_is, c.keep-2.ensures)
      (kept_keeps (parts_in c.self.inside) c.self.invariant.laid c.args.kept.now c.keep.new.self.cells c.keep.ensures.after
      (c.self.inside.slots - c.freed_slots-freed.result) c.keep.ensures.count);
}
