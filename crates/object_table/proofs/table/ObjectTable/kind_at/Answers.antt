use Rattle.std.proofs.Common.{length, ◌<◌}
use Rattle.object_table.proofs.Positions.{position_distinct}
use Rattle.object_table.proofs.Parts.{object_in-held}
use Rattle.object_table.proofs.Changes.{of_some}
use Rattle.object_table.proofs.Tables.{parts_in}
use Rattle.object_table.proofs.table.ObjectTable.kind_at.Goals as goal

pub returns : goal.returns
returns c =
    let known = of_some (λ o. o.kind < length c.self.inside.kinds) _ c.at.result.now (c.self.invariant.laid.known c.args.cell) c.at.ensures in
    record {
      number =
          rw (← c.self.view_is, object_in-held (parts_in c.self.inside) c.self.invariant.laid c.args.cell c.at.result.now c.at.ensures, c.kind.ensures)
          (position_distinct c.self.inside.kinds c.at.result.now.kind c.self.invariant.sound.kinds known);
    }
