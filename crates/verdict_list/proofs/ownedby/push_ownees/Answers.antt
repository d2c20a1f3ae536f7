use Rattle.std.proofs.Common.{◌∷◌, [], nat_lt, length, map, get_or, ap, subst, ◌∙◌, arith}
use Rattle.std.proofs.lemmas.List.{length-append}
use Rattle.graph_meaning.specs.Collecting.{ownedby_verdict}
use Rattle.verdict_list.specs.Listed.{verdict_if, owned_pair, GoesOn}
use Rattle.verdict_list.proofs.GoingOn.{begins, goes_by_nth, ends_at}
use Rattle.verdict_list.proofs.ownedby.push_ownees.Goals as goal

pub loop-cell-init : goal.loop-cell-init
loop-cell-init c = rw c.reserve.ensures.same (record {
  gone = λ h are. begins c.args.paths (λ cell. ownedby_verdict h (owned_pair c.args.checked.table.now h cell)) c.args.list.now c.ownees-cell-items.result.now;
  number = omega arith;
})

pub push-requires : goal.push-requires
push-requires c = omega (arith, c.loop-cell.invariant.number, c.requires.room, c.loop-cell-test.true, ap length c.ownees-cell-items.ensures)

pub loop-cell-preserved : goal.loop-cell-preserved
loop-cell-preserved c = rw c.in_ok-push.ensures.ok (record {
  gone =
      λ h are. goes_by_nth c.args.paths (λ cell. ownedby_verdict h (owned_pair c.args.checked.table.now h cell)) c.args.list.now
      c.loop-cell.list c.ownees-cell-items.result.now c.loop-cell.cell-index 0 c.in_ok-verdict.verdict c.loop-cell-test.true
      (c.in_ok-verdict.ensures h are
      ∙ ap (λ n. verdict_if (nat_lt n c.args.paths) (ownedby_verdict h (owned_pair c.args.checked.table.now h (get_or c.ownees-cell-items.result.now c.loop-cell.cell-index 0)))) c.len.ensures)
      (c.loop-cell.invariant.gone h are);
  number = omega (arith, c.loop-cell.invariant.number, length-append c.loop-cell.list (c.in_ok-verdict.verdict ∷ []));
})

pub returns-clause-length : goal.returns-clause-length
returns-clause-length c = omega (arith, c.loop-cell.invariant.number, c.loop-cell-test.false, c.loop-cell.auto.cell-index-end, ap length c.ownees-cell-items.ensures)

pub returns-clause-verdicts : goal.returns-clause-verdicts
returns-clause-verdicts c h are =
    subst (λ cells. GoesOn c.args.paths c.args.list.now (map (λ cell. ownedby_verdict h (owned_pair c.args.checked.table.now h cell)) cells) c.loop-cell.list) c.ownees-cell-items.ensures
    (ends_at c.args.paths (λ cell. ownedby_verdict h (owned_pair c.args.checked.table.now h cell)) c.args.list.now c.loop-cell.list
    c.ownees-cell-items.result.now c.loop-cell.cell-index c.loop-cell-test.false (c.loop-cell.invariant.gone h are))
