use Rattle.std.proofs.Common.{◌<◌, ◌∷◌, [], nat_lt, get_or, ap, ◌∙◌, arith}
use Rattle.std.proofs.lemmas.Bool.{ltb-true}
use Rattle.std.proofs.lemmas.List.{length-append}
use Rattle.graph_meaning.specs.Collecting.{dead_verdict}
use Rattle.graph_meaning.specs.Roles.{id_at}
use Rattle.verdict_list.specs.Listed.{verdict_if}
use Rattle.verdict_list.proofs.GoingOn.{begins, goes_by_nth, ends_at}
use Rattle.verdict_list.proofs.dead.push_dead.Goals as goal

pub loop-cell-init : goal.loop-cell-init
loop-cell-init c = record {
  gone = λ h shows. begins c.args.plain.most (λ cell. dead_verdict h (id_at c.args.plain.table.now.cells cell)) c.args.list.now c.args.cells.now;
  number = omega arith;
}

pub dead_verdict-requires-clause-there : goal.dead_verdict-requires-clause-there
dead_verdict-requires-clause-there c is_shown =
    let less : c.len.result < c.args.plain.most = ltb-true c.len.result c.args.plain.most is_shown in
    c.requires.there (omega (arith, less, c.len.ensures, c.loop-cell.invariant.number)) (omega (arith, c.loop-cell-test.true))

pub push-requires : goal.push-requires
push-requires c = omega (arith, c.loop-cell.invariant.number, c.requires.room, c.loop-cell-test.true)

pub loop-cell-preserved : goal.loop-cell-preserved
loop-cell-preserved c = rw c.in_ok-push.ensures.ok (record {
  gone =
      λ h shows. goes_by_nth c.args.plain.most (λ cell. dead_verdict h (id_at c.args.plain.table.now.cells cell)) c.args.list.now c.loop-cell.list
      c.args.cells.now c.loop-cell.cell-index 0 c.in_ok-verdict.verdict c.loop-cell-test.true
      (c.in_ok-verdict.ensures h shows
      ∙ ap (λ n. verdict_if (nat_lt n c.args.plain.most) (dead_verdict h (id_at c.args.plain.table.now.cells (get_or c.args.cells.now c.loop-cell.cell-index 0)))) c.len.ensures)
      (c.loop-cell.invariant.gone h shows);
  number = omega (arith, c.loop-cell.invariant.number, length-append c.loop-cell.list (c.in_ok-verdict.verdict ∷ []));
})

pub returns-clause-length : goal.returns-clause-length
returns-clause-length c = omega (arith, c.loop-cell.invariant.number, c.loop-cell-test.false, c.loop-cell.auto.cell-index-end)

pub returns-clause-verdicts : goal.returns-clause-verdicts
returns-clause-verdicts c h shows =
    ends_at c.args.plain.most (λ cell. dead_verdict h (id_at c.args.plain.table.now.cells cell)) c.args.list.now c.loop-cell.list c.args.cells.now
    c.loop-cell.cell-index c.loop-cell-test.false (c.loop-cell.invariant.gone h shows)
