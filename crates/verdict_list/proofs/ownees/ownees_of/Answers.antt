use Rattle.std.proofs.Common.{◌++◌, [], ◌∷◌, ℕ, sym, ap, ◌∙◌, arith}
use Rattle.graph_meaning.specs.Roles.{owner_in, has_owner}
use Rattle.verdict_list.proofs.CellsById.{nth-held, passing-more, passing-same}
use Rattle.verdict_list.proofs.ownees.ownees_of.Goals as goal
use Rattle.verdict_list.proofs.ownees.ownees_of.Goals.{then-has_owner+in_ok-push, else-has_owner}

pub prove-unreachable-requires : goal.prove-unreachable-requires
prove-unreachable-requires c =
    let within = nth-held c.args.table.now c.cells-cells.ensures.placed c.loop-number.number c.nth_cell-cell.result (omega arith) c.nth_cell-cell.ensures.cell in
    omega (arith, within)

pub loop-number-preserved : goal.loop-number-preserved
loop-number-preserved c =
    let p = c.args.table.now in
    let placed = c.cells-cells.ensures.placed in
    let test = λ (x : ℕ). has_owner (owner_in c.args.roles.now x) in
    let n = c.loop-number.number in
    let cell = c.nth_cell-cell.result in
    let is = c.has_owner.ensures ∙ ap has_owner c.owner.ensures in
    elim c.if-has_owner.branch [
      | then-has_owner+in_ok-push w ↦
          let more = passing-more p placed test n cell (omega arith) c.nth_cell-cell.ensures.cell (sym is ∙ w.if-has_owner.true) in
          rw w.ownees-is (w.in_ok-push.ensures.items ∙ ap (λ xs. xs ++ cell ∷ []) c.loop-number.invariant ∙ more)
      | else-has_owner w ↦
          rw w.ownees-is (c.loop-number.invariant ∙ passing-same p placed test n cell (omega arith) c.nth_cell-cell.ensures.cell (sym is ∙ w.if-has_owner.false))
    ]
