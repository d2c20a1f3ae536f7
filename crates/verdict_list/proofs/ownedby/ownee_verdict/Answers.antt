use Rattle.std.proofs.Common.{ap, sym, ◌∙◌}
use Rattle.std.specs.Option.{is_some}
use Rattle.graph_meaning.specs.Collecting.{ownedby_verdict}
use Rattle.graph_meaning.specs.Heap.{Table, kind_at}
use Rattle.graph_meaning.specs.Paths.{shown_path, unowned_way}
use Rattle.path_cert.proofs.HeldObjects.{id-held}
use Rattle.verdict_list.specs.Listed.{path_if, verdict_if}
use Rattle.verdict_list.proofs.OwnedPairs.{ownee_at, owner-is, is_owned, pair-is}
use Rattle.verdict_list.proofs.WithOwnees.{ownedby-is}
use Rattle.verdict_list.proofs.ownedby.ownee_verdict.Goals as goal

pub object_kind-requires : goal.object_kind-requires
object_kind-requires c =
    let (h, are) = c.requires.check in
    let stand = are.stand in
    let violating = are.violating in
    let (o, held, owned) = ownee_at c.args.checked.table.now c.args.checked.roles.now h c.args.checked.check.now stand violating c.args.cell c.requires.ownee in
    ap is_some held

pub object_id-id-requires : goal.object_id-id-requires
object_id-id-requires c =
    let (h, are) = c.requires.check in
    let stand = are.stand in
    let violating = are.violating in
    let (o, held, owned) = ownee_at c.args.checked.table.now c.args.checked.roles.now h c.args.checked.check.now stand violating c.args.cell c.requires.ownee in
    ap is_some held

pub owner_of-owner-requires-clause-owned : goal.owner_of-owner-requires-clause-owned
owner_of-owner-requires-clause-owned c =
    let (h, are) = c.requires.check in
    let stand = are.stand in
    let violating = are.violating in
    is_owned c.args.checked.table.now c.args.checked.roles.now h c.args.checked.check.now stand violating c.args.cell c.requires.ownee

pub returns : goal.returns
returns c h are =
    let stand = are.stand in
    let violating = are.violating in
    let p = c.args.checked.table.now in
    let cell = c.args.cell in
    let (o, held, owned) = ownee_at p c.args.checked.roles.now h c.args.checked.check.now stand violating cell c.requires.ownee in
    let by = owner-is p c.args.checked.roles.now h c.args.checked.check.now stand violating cell o held owned in
    let id = id-held p cell o.0 held in
    ownedby-is c.args.is_shown h o c.object_id-id.result c.in_ok-kind.kind c.owner_of-owner.result.id c.owner_of-owner.result.gone c.in_ok-path.path
    (c.object_id-id.ensures.id ∙ id)
    (c.in_ok-kind.ensures ∙ ap (kind_at p.table) id ∙ ap (λ (t : Table). kind_at t o.0) (sym stand.table))
    (c.owner_of-owner.ensures.id h o.1 stand by)
    (c.owner_of-owner.ensures.gone h o.1 stand by)
    (c.in_ok-path.ensures h violating ∙ ap (λ x. path_if c.args.is_shown (shown_path (unowned_way h x))) id)
    ∙ ap (λ x. verdict_if c.args.is_shown (ownedby_verdict h x)) (sym (pair-is p c.args.checked.roles.now h c.args.checked.check.now stand violating cell o held owned))
