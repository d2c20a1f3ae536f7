use Rattle.std.proofs.Common.{ap, sym, ◌∙◌}
use Rattle.std.specs.Option.{is_some}
use Rattle.graph_meaning.specs.Heap.{Table, kind_at}
use Rattle.graph_meaning.specs.Roles.{id_at}
use Rattle.path_cert.proofs.HeldObjects.{held-id}
use Rattle.verdict_list.specs.Counts.{counted_in}
use Rattle.verdict_list.proofs.Showing.{unshared-is, counted-is}
use Rattle.verdict_list.proofs.unshared.unshared_verdict.Goals as goal

pub returns : goal.returns
returns g c h shows first =
    let p = c.args.plain.table.now in
    let cell = c.args.cell in
    let id = id_at p.cells cell in
    unshared-is (is_some c.args.found) (counted_in p (g.T.HeapCounts.counts c.args.traced.now)) h id c.object_id-id.result c.in_ok-kind.kind
    c.references-refs.result c.in_ok-first.first c.in_ok-first.second
    c.object_id-id.ensures.id
    (c.in_ok-kind.ensures ∙ ap (λ (t : Table). kind_at t id) (sym shows.stand.table))
    (c.references-refs.ensures ∙ sym (counted-is p (g.T.HeapCounts.counts c.args.traced.now) c.cells-cells.ensures.placed cell id (held-id p cell c.requires.cell)))
    (c.in_ok-first.ensures.first h id shows first)
    (c.in_ok-first.ensures.second h id shows first)
