use Rattle.std.proofs.Common.{◌≡◌, ◌<◌, ◌∷◌, [], true, nat_lt, length, arith}
use Rattle.std.proofs.lemmas.Bool.{ltb-true}
use Rattle.std.proofs.lemmas.List.{length-append}
use Rattle.graph_meaning.specs.Collecting.{instances_verdict}
use Rattle.verdict_list.specs.Kinds.{named_count}
use Rattle.verdict_list.proofs.GoingOn.{begins, goes_by_count, ends_at}
use Rattle.verdict_list.proofs.instances.push_instances.Goals as goal

pub loop-count-init : goal.loop-count-init
loop-count-init c = record {
  gone = λ h shows tells. begins c.args.plain.most (λ k. instances_verdict h (named_count c.args.plain.table.now k)) c.args.list.now c.args.counts.now;
  number = omega arith;
}

pub instances_verdict-requires-clause-there : goal.instances_verdict-requires-clause-there
instances_verdict-requires-clause-there c is_shown =
    let less : c.len.result < c.args.plain.most = ltb-true c.len.result c.args.plain.most is_shown in
    c.requires.there (omega (arith, less, c.len.ensures, c.loop-count.invariant.number)) (omega (arith, c.loop-count-test.true))

pub push-requires : goal.push-requires
push-requires c = omega (arith, c.loop-count.invariant.number, c.requires.room, c.loop-count-test.true)

pub loop-count-preserved : goal.loop-count-preserved
loop-count-preserved c = rw c.in_ok-push.ensures.ok (record {
  gone = λ h shows tells.
      let shown : nat_lt c.len.result c.args.plain.most ≡ true → length c.args.list.now < c.args.plain.most =
      λ is_shown. (let less : c.len.result < c.args.plain.most = ltb-true c.len.result c.args.plain.most is_shown in omega (arith, less, c.len.ensures, c.loop-count.invariant.number)) in
      goes_by_count c.args.plain.most (λ k. instances_verdict h (named_count c.args.plain.table.now k)) c.args.list.now c.loop-count.list c.args.counts.now
      c.loop-count.count-index _ c.in_ok-verdict.verdict c.len.result c.loop-count-test.true c.len.ensures
      (c.in_ok-verdict.ensures h shows (tells.says c.loop-count.count-index _ c.loop-count-test.true)
      (λ is_shown. tells.first (shown is_shown) c.loop-count.count-index _ c.loop-count-test.true)) (c.loop-count.invariant.gone h shows tells);
  number = omega (arith, c.loop-count.invariant.number, length-append c.loop-count.list (c.in_ok-verdict.verdict ∷ []));
})

pub returns-clause-length : goal.returns-clause-length
returns-clause-length c = omega (arith, c.loop-count.invariant.number, c.loop-count-test.false, c.loop-count.auto.count-index-end)

pub returns-clause-verdicts : goal.returns-clause-verdicts
returns-clause-verdicts c h shows tells =
    ends_at c.args.plain.most (λ k. instances_verdict h (named_count c.args.plain.table.now k)) c.args.list.now c.loop-count.list c.args.counts.now
    c.loop-count.count-index c.loop-count-test.false (c.loop-count.invariant.gone h shows tells)
