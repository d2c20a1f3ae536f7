use Rattle.std.proofs.Common.{sym, ◌∙◌, arith}
use Rattle.graph_meaning.specs.Heap.{Table}
use Rattle.object_table.specs.Parts.{placed_of}
use Rattle.object_table.proofs.Refusals.{root_dead, root_full, root_there, root_room}
use Rattle.object_table.proofs.Tables.{parts_in}
use Rattle.object_table.proofs.table.ObjectTable.root_refusal.Goals as goal

pub returns-in-Some : goal.returns-in-Some
returns-in-Some c = sym (root_dead c.args.self.now.table c.args.name.now c.args.id c.in-Some.refusal (sym c.not_live.ensures ∙ c.in-Some.is))

pub returns-then-not-has : goal.returns-then-not-has
returns-then-not-has c =
    let t : Table = (placed_of (parts_in c.self.inside)).table in
    rw (← c.self.view_is) (sym (root_full t c.args.name.now c.args.id (rw (← c.self.view_is) at (sym c.not_live.ensures ∙ c.in_default.is)) (sym c.if-not-has.ensures) (omega arith)))

pub returns-else-len-self : goal.returns-else-len-self
returns-else-len-self c =
    let t : Table = (placed_of (parts_in c.self.inside)).table in
    let live = rw (← c.self.view_is) at (sym c.not_live.ensures ∙ c.in_default.is) in
    rw (← c.self.view_is) (sym (elim c.else-len-self.branch [
      | goal.else-len-self-via-then-len-self+else-not-has w ↦ root_there t c.args.name.now c.args.id live (sym w.if-not-has.ensures)
      | goal.else-len-self-via-else-len-self w ↦ root_room t c.args.name.now c.args.id live (omega arith)
    ]))
