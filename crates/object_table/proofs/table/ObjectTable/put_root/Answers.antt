use Rattle.std.proofs.Common.{is_some, refl, sym, ◌∙◌, ap, arith}
use Rattle.graph_meaning.specs.Heap.{Table}
use Rattle.graph_meaning.specs.Step.{with_root}
use Rattle.object_table.specs.Parts.{placed_of}
use Rattle.object_table.proofs.Refusals.{root_fits}
use Rattle.object_table.proofs.Tables.{parts_in, table_with_root}
use Rattle.object_table.proofs.table.ObjectTable.put_root.Goals as goal

pub set-requires : goal.set-requires
set-requires c new =
    let t : Table = (placed_of (parts_in c.self.inside)).table in
    let room = (root_fits t c.args.name.now c.args.id (rw (← c.self.view_is) at (sym c.root_refusal.ensures ∙ c.in_default.is))).1 (ap is_some new) in
    omega (arith, room, c.self.invariant.sound.limits.possible.roots)

pub invariant_of-self-2 : goal.invariant_of-self-2
invariant_of-self-2 c =
    rw c.in_ok-set.ensures.set (table_with_root (parts_in c.self.inside) c.self.invariant c.args.name.now c.args.id (rw (← c.self.view_is) at (sym c.root_refusal.ensures ∙ c.in_default.is)))

pub returns-clause-set : goal.returns-clause-set
unfolding with_root
returns-clause-set c = rw (← c.self.view_is, c.in_ok-set.ensures.set) refl
