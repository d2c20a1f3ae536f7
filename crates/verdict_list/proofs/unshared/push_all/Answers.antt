use Rattle.std.proofs.Common.{◌≡◌, ◌<◌, ◌∷◌, [], nat_lt, length, get_or, ap, sym, ◌∙◌, arith}
use Rattle.std.specs.Option.{is_some}
use Rattle.std.proofs.lemmas.Bool.{ltb-true}
use Rattle.std.proofs.lemmas.List.{length-append}
use Rattle.graph_meaning.specs.Collecting.{unshared_verdict}
use Rattle.graph_meaning.specs.Roles.{id_at}
use Rattle.verdict_list.specs.Listed.{verdict_if}
use Rattle.verdict_list.specs.Counts.{counted_in}
use Rattle.verdict_list.proofs.GoingOn.{begins, goes_by_nth, ends_at, first_at, refers_at, shown_here, is_some-slice_get}
use Rattle.verdict_list.proofs.unshared.push_all.Goals as goal

pub loop-place-init : goal.loop-place-init
loop-place-init g c = record {
  gone =
      λ h shows first. begins c.args.plain.most
      (λ cell. unshared_verdict (counted_in c.args.plain.table.now (g.T.HeapCounts.counts c.args.traced.now)) h (id_at c.args.plain.table.now.cells cell))
      c.args.list.now c.args.shared.cells.now;
  number = omega arith;
}

pub unshared_verdict-requires-clause-found : goal.unshared_verdict-requires-clause-found
unshared_verdict-requires-clause-found g c =
    refers_at c.args.plain.table.now c.args.shared.cells.now c.args.shared.references.now c.loop-place.place c.at_place-found.result
    c.requires.references c.loop-place-test.true c.at_place-found.ensures

pub unshared_verdict-requires-clause-there : goal.unshared_verdict-requires-clause-there
unshared_verdict-requires-clause-there g c some =
    let less : c.loop-place.place < length c.args.shared.references.now =
    ltb-true c.loop-place.place (length c.args.shared.references.now) (sym (is_some-slice_get c.args.shared.references.now c.loop-place.place) ∙ ap is_some (sym c.at_place-found.ensures) ∙ some) in
    c.requires.there (omega (arith, less))

pub push-requires : goal.push-requires
push-requires g c = omega (arith, c.loop-place.invariant.number, c.requires.room, c.loop-place-test.true)

pub loop-place-preserved : goal.loop-place-preserved
loop-place-preserved g c = rw c.in_ok-push.ensures.ok (record {
  gone = λ h shows first.
      let here =
      unshared_verdict (counted_in c.args.plain.table.now (g.T.HeapCounts.counts c.args.traced.now)) h (id_at c.args.plain.table.now.cells (get_or c.args.shared.cells.now c.loop-place.place 0)) in
      let shown : is_some c.at_place-found.result ≡ nat_lt (length c.loop-place.list) c.args.plain.most = ap is_some c.at_place-found.ensures
      ∙ is_some-slice_get c.args.shared.references.now c.loop-place.place
      ∙ shown_here c.loop-place.place (length c.args.shared.cells.now) (length c.args.shared.references.now) c.args.plain.most (length c.args.list.now)
      (length c.loop-place.list) c.loop-place-test.true c.requires.shown c.loop-place.invariant.number in
      goes_by_nth c.args.plain.most
      (λ cell. unshared_verdict (counted_in c.args.plain.table.now (g.T.HeapCounts.counts c.args.traced.now)) h (id_at c.args.plain.table.now.cells cell))
      c.args.list.now c.loop-place.list c.args.shared.cells.now c.loop-place.place 0 c.in_ok-verdict.verdict c.loop-place-test.true
      (c.in_ok-verdict.ensures h shows
      (first_at c.args.plain.table.now h c.args.shared.cells.now c.args.shared.references.now c.loop-place.place c.at_place-found.result first c.loop-place-test.true
      c.at_place-found.ensures)
      ∙ ap (λ b. verdict_if b here) shown)
      (c.loop-place.invariant.gone h shows first);
  number = omega (arith, c.loop-place.invariant.number, length-append c.loop-place.list (c.in_ok-verdict.verdict ∷ []));
})

pub returns-clause-length : goal.returns-clause-length
returns-clause-length g c = omega (arith, c.loop-place.invariant.number, c.loop-place-test.false, c.loop-place.auto.place-end)

pub returns-clause-verdicts : goal.returns-clause-verdicts
returns-clause-verdicts g c h shows first =
    ends_at c.args.plain.most
    (λ cell. unshared_verdict (counted_in c.args.plain.table.now (g.T.HeapCounts.counts c.args.traced.now)) h (id_at c.args.plain.table.now.cells cell))
    c.args.list.now c.loop-place.list c.args.shared.cells.now c.loop-place.place c.loop-place-test.false (c.loop-place.invariant.gone h shows first)
