use Rattle.std.proofs.Common.{ap, ◌∙◌, filter}
use Rattle.std.proofs.lemmas.Result.{IfOk-weaker}
use Rattle.verdict_list.specs.Cells.{cells_by_id}
use Rattle.verdict_list.proofs.ViolatingOwnees.{doubts-held}
use Rattle.audit_core.specs.Cells.{is_in_doubt}
use Rattle.audit_core.proofs.InDoubt.{doubts-are}
use Rattle.audit_core.proofs.ownership.check_owners.Goals as goal

pub check_ownees-requires-clause-doubts : goal.check_ownees-requires-clause-doubts
check_ownees-requires-clause-doubts c =
    doubts-held c.args.table.now c.doubtful_ownees.ensures.placed (is_in_doubt c.args.roles.now c.words.result.now) c.in_ok-doubts.doubts.items c.in_ok-doubts.ensures.doubts

pub returns-clause-violating : goal.returns-clause-violating
returns-clause-violating c =
    let p = c.args.table.now in
    let r = c.args.roles.now in
    let words = ap (λ ws. filter (is_in_doubt r ws) (cells_by_id p)) c.words.ensures in
    IfOk-weaker c.check_ownees.result _ _
    (λ check are h stand trace. are h stand (doubts-are p r h c.args.traced.now stand trace c.in_ok-doubts.doubts.items (c.in_ok-doubts.ensures.doubts ∙ words)))
    c.check_ownees.ensures.violating
