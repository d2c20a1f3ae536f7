use Rattle.std.proofs.Common.{◌≡◌, ◌∙◌}
use Rattle.std.proofs.lemmas.Result.{IfOk-weaker}
use Rattle.audit_core.specs.Audit.{Audit, next_collection, next_counted}
use Rattle.audit_core.proofs.Collected.{counted_as_defined}
use Rattle.audit_core.proofs.auditor.Auditor.collect_at.Goals as goal

pub returns-clause-found : goal.returns-clause-found
returns-clause-found g c =
    let a : Audit = c.args.self.now in
    let t = c.in_ok-traced.traced in
    let agree : next_counted t a ≡ next_collection a =
    counted_as_defined a c.table-table.result.now c.table-table.ensures.table c.cells.ensures.placed c.in_ok-roles.roles c.in_ok-roles.ensures.roles t c.in_ok-traced.ensures.counts in
    IfOk-weaker c.finish_collect.result (λ made. made ≡ next_counted t a) (λ made. made ≡ next_collection a) (λ made is. is ∙ agree) c.finish_collect.ensures.found
