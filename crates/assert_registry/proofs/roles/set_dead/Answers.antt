use Rattle.std.proofs.Common.{true, set, sym, ap, ◌∙◌, arith}
use Rattle.std.proofs.lemmas.List.{length-set}
use Rattle.graph_meaning.specs.Roles.{RoleTable}
use Rattle.assert_registry.proofs.Marking.{drop_next, flag_all, flag_first}
use Rattle.assert_registry.proofs.roles.set_dead.Goals as goal

pub loop-id-preserved : goal.loop-id-preserved
loop-id-preserved c =
    let i = c.loop-id.invariant in
    rw c.set_dead.ensures (record {
      cells = record { dead = length-set c.loop-id.roles.dead c.live_cell.result true ∙ i.cells.dead; unshared = i.cells.unshared; ownees = i.cells.ownees };
      set =
          flag_first c.args.table.now c.requires.placed c.id-item.result c.live_cell.result c.live_cell.ensures.cell c.loop-id.roles.dead _ _ _
          (omega (arith, c.live_cell.ensures.below, i.cells.dead)) (drop_next c.args.dead.now c.loop-id.id-index c.id-item.result c.loop-id-test.true c.id-item.is) i.set;
      rest = ap (λ (r : RoleTable). record r { dead = set c.loop-id.roles.dead c.live_cell.result true }) i.rest;
    })

pub returns-clause-set : goal.returns-clause-set
returns-clause-set c cell =
    sym (flag_all c.args.table.now c.loop-id.roles.dead c.args.dead.now c.loop-id.id-index (omega arith) cell) ∙ c.loop-id.invariant.set cell
