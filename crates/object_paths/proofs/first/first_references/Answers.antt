use Rattle.std.proofs.Common.{◌≡◌, ◌||◌, length, Some, ap, subst, ◌∙◌}
use Rattle.std.specs.List.{slice_get}
use Rattle.graph_meaning.specs.Assertions.{references, roots_to, is_traced, is_owner}
use Rattle.object_paths.specs.Findings.{finding_in}
use Rattle.object_paths.proofs.Listing.{finds-same, references-are, scanned-by_cell}
use Rattle.object_paths.proofs.first.first_references.Goals as goal

pub returns-clause-each : goal.returns-clause-each
returns-clause-each c =
    ap length c.into_found.ensures ∙ c.take_objects.ensures.count ∙ c.take_roots.ensures.count ∙ c.in_ok-search.ensures.count

pub returns-clause-first : goal.returns-clause-first
returns-clause-first c h known n cell f at is =
    let p = c.args.traced.table.now in
    let t = c.args.traced.table.now.table in
    let asked = c.args.asked.now in
    let scanned = scanned-by_cell p c.args.traced.roles.now h c.args.traced.kept.now c.cells.ensures.placed known.stand known.keeps in
    let roots = c.take_roots.ensures.finds asked (c.in_ok-search.ensures.finds p c.requires.asked) in
    let all = c.take_objects.ensures.finds (λ x. is_traced h x || is_owner h x) scanned asked (roots_to t) roots in
    let finds = finds-same p asked _ (references h) (finding_in c.take_objects.new.self) (λ id. references-are h t id known.stand.table) all in
    finds.first n cell f at (subst (λ xs. slice_get xs n ≡ Some f) c.into_found.ensures is)
