use Rattle.std.proofs.Common.{is_some, slice_get, sym, ap, ◌∙◌}
use mathlib.Core.Bool.{false≢true}
use Rattle.object_table.proofs.Tables.{parts_in, root_found, root_in}
use Rattle.object_table.proofs.table.ObjectTable.root_cell.Goals as goal

pub returns : goal.returns
returns c =
    record {
      cell =
          rw (← c.self.view_is)
          (root_in (parts_in c.self.inside) c.self.invariant c.in-Some.cell c.number.result (slice_get c.self.inside.roots c.args.root)
          (sym c.find_number.ensures ∙ c.in-Some.is) c.number.ensures);
    }

-- what a root names is live
pub unreachable-requires : goal.unreachable-requires
unreachable-requires c =
    false≢true (sym (ap is_some (sym c.find_number.ensures ∙ c.in-None.is))
    ∙ root_found (parts_in c.self.inside) c.self.invariant c.args.root c.number.result (rw (← c.self.view_is) at c.requires.in_range) c.number.ensures)
