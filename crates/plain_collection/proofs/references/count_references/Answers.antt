use Rattle.std.proofs.Common.{ap, ◌∙◌, ◌||◌, length}
use Rattle.std.proofs.lemmas.List.{length-replicate}
use Rattle.graph_meaning.specs.Assertions.{is_traced, is_owner, roots_to}
use Rattle.object_paths.proofs.Listing.{scanned-by_cell}
use Rattle.plain_collection.proofs.Counts.{counts-none, counts-references, most-none}
use Rattle.plain_collection.proofs.references.count_references.Goals as goal

pub count_roots-requires-clause-each : goal.count_roots-requires-clause-each
count_roots-requires-clause-each c = ap length c.in_ok-counts.ensures ∙ length-replicate c.cells.result 0 ∙ c.cells.ensures.count

pub count_roots-requires-clause-few : goal.count_roots-requires-clause-few
count_roots-requires-clause-few c = most-none c.cells.result c.in_ok-counts.counts.items c.in_ok-counts.ensures

pub count_objects-requires-clause-each : goal.count_objects-requires-clause-each
count_objects-requires-clause-each c = c.count_roots.ensures.each ∙ ap length c.in_ok-counts.ensures ∙ length-replicate c.cells.result 0 ∙ c.cells.ensures.count

pub returns-clause-each : goal.returns-clause-each
returns-clause-each c = c.count_objects.ensures.each ∙ c.count_roots.ensures.each ∙ ap length c.in_ok-counts.ensures ∙ length-replicate c.cells.result 0 ∙ c.cells.ensures.count

pub returns-clause-counts : goal.returns-clause-counts
returns-clause-counts c h known =
    let p = c.args.traced.table.now in
    let placed = c.cells.ensures.placed in
    let roots = c.count_roots.ensures.counts (counts-none p c.cells.result c.in_ok-counts.counts.items c.in_ok-counts.ensures) in
    counts-references p h c.count_objects.new.counts.items known.stand.table
    (c.count_objects.ensures.counts (λ x. is_traced h x || is_owner h x) (scanned-by_cell p c.args.traced.roles.now h c.args.traced.kept.now placed known.stand known.keeps) (roots_to p.table) roots)
