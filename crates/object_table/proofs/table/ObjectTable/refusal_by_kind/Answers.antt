use Rattle.std.proofs.Common.{sym, arith}
use Rattle.std.specs.Str.{bytes_eq}
use Rattle.graph_meaning.specs.Heap.{Table}
use Rattle.object_table.specs.Parts.{placed_of}
use Rattle.object_table.proofs.Positions.{any-position}
use Rattle.object_table.proofs.Refusals.{kind_full, kind_seen, kind_room}
use Rattle.object_table.proofs.Tables.{parts_in}
use Rattle.object_table.proofs.table.ObjectTable.refusal_by_kind.Goals as goal

pub returns-then-len-ge-MOST_KINDS : goal.returns-then-len-ge-MOST_KINDS
returns-then-len-ge-MOST_KINDS c =
    let t : Table = (placed_of (parts_in c.self.inside)).table in
    rw (← c.self.view_is) (sym
    (kind_full t c.args.kind.now (grind (arith, any-position (bytes_eq c.args.kind.now) c.self.inside.kinds, rw (← c.self.view_is) at c.requires, c.if-is_none.ensures)) (omega arith)))

pub returns-else-is_none : goal.returns-else-is_none
returns-else-is_none c =
    let t : Table = (placed_of (parts_in c.self.inside)).table in
    rw (← c.self.view_is) (sym (elim c.else-is_none.branch [
      | goal.else-is_none-via-then-is_none+else-len-ge-MOST_KINDS w ↦ kind_room t c.args.kind.now (omega arith)
      | goal.else-is_none-via-else-is_none w ↦ kind_seen t c.args.kind.now
          (grind (arith, any-position (bytes_eq c.args.kind.now) c.self.inside.kinds, rw (← c.self.view_is) at c.requires, w.if-is_none.ensures))
    ]))
