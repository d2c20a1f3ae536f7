use Rattle.object_table.proofs.Tables.{parts_in, nth_within, nth_in}
use Rattle.object_table.proofs.table.ObjectTable.nth_cell.Goals as goal

pub cell-requires : goal.cell-requires
cell-requires c = nth_within (parts_in c.self.inside) c.self.invariant c.args.number (rw (← c.self.view_is) at c.requires.in_range)

pub returns : goal.returns
returns c =
    record {
      cell =
          rw (← c.self.view_is)
          (nth_in (parts_in c.self.inside) c.self.invariant c.args.number c.cell.result
          (nth_within (parts_in c.self.inside) c.self.invariant c.args.number (rw (← c.self.view_is) at c.requires.in_range)) c.cell.ensures);
    }
