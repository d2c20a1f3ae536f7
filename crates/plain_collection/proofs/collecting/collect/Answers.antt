use Rattle.std.proofs.Common.{◌≡◌, length, sym, ap, subst, ◌∙◌, refl, arith}
use Rattle.graph_meaning.specs.Assertions.{reference_count}
use Rattle.object_table.specs.Placed.{PlacedTable}
use Rattle.assert_registry.specs.Laws.{StandFor}
use Rattle.heap_parts.specs.Parts.{placed_in}
use Rattle.plain_collection.specs.Verdicts.{plain_rules}
use Rattle.verdict_list.proofs.Collected.{found_by}
use Rattle.plain_collection.proofs.Found.{traced-few}
use Rattle.plain_collection.proofs.collecting.collect.Goals as goal

pub returns-clause-found : goal.returns-clause-found
returns-clause-found c =
    let h = c.args.parts.now.heap in
    let p = c.table-table.result.now in
    let rules = plain_rules c.args.paths in
    let is : c.table-table.result.now ≡ placed_in c.args.parts.now = c.table-table.ensures in
    let stand = subst (λ (x : PlacedTable). StandFor x c.in_ok-roles.roles c.args.parts.now.heap) (sym is) c.in_ok-roles.ensures.of_heap in
    let trace = c.in_ok-trace.ensures.trace h stand in
    let live : c.live-live.result ≡ length c.args.parts.now.heap.table.objects = c.live-live.ensures.count ∙ ap (λ (x : PlacedTable). length x.table.objects) is in
    let freed = c.finish-swept.ensures.freed in
    let few = traced-few c.args.parts.now.heap in
    found_by (reference_count h) h rules c.args.number c.live-live.result _ c.finish-swept.result.freed c.finish-swept.result.cleared c.in_ok-verdicts.verdicts live
    (omega (arith, live, freed, few)) freed (c.finish-swept.ensures.cleared rules refl) (c.in_ok-verdicts.ensures.verdicts h trace)
