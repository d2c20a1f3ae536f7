use Rattle.std.proofs.Common.{◌≡◌, ◌∙◌}
use Rattle.audit_core.specs.Audit.{Audit, next_collection, next_counted}
use Rattle.audit_core.proofs.Collected.{counted_as_defined}
use Rattle.resident_crew.proofs.collecting.collect_resident.Goals as goal

pub returns : goal.returns
returns g c =
    let a : Audit = c.args.auditor.now in
    let t = c.in_ok-traced.traced in
    let agree : next_counted t a ≡ next_collection a =
    counted_as_defined a c.table-table.result.now c.table-table.ensures.table c.in_ok-traced.ensures.placed c.in_ok-roles.roles c.in_ok-roles.ensures.roles t c.in_ok-traced.ensures.counts in
    (c.in_ok-collection.ensures.found ∙ agree, c.in_ok-collection.ensures.after)
