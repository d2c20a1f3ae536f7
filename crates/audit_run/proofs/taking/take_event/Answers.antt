use Rattle.std.proofs.Common.{refl}
use Rattle.trace_run.specs.Audits.{rules_within}
use Rattle.audit_run.specs.Auditors.{auditor_state}
use Rattle.trace_run.proofs.Effects.{takes-refused}
use Rattle.audit_run.proofs.Collected.{takes-collect, applied-goes_on, no_more, from_result_err}
use Rattle.audit_run.proofs.taking.take_event.Goals as goal

pub returns-in-Ok-clause-takes : goal.returns-in-Ok-clause-takes
returns-in-Ok-clause-takes g c =
    let rules = rules_within c.args.audit.now.most c.args.audit.now.paths c.args.audit.now.react in
    takes-collect rules c.args.audit.now.auditor c.make_collection.new.auditor c.args.event.now c.in-Ok.taken c.in-Collect.is (c.in-Ok.ensures.takes rules refl c.args.audit.now.rules)

pub returns-in-Ok-apply : goal.returns-in-Ok-apply
returns-in-Ok-apply g c =
    let rules = rules_within c.args.audit.now.most c.args.audit.now.paths c.args.audit.now.react in
    let applied = c.in-Ok-apply.ensures in
    record {
      takes = applied-goes_on rules c.args.audit.now.auditor c.apply.new.self c.args.event.now c.in_default.not-Collect applied.applied applied.rest;
      few = no_more c.args.audit.now.auditor c.apply.new.self applied.rest;
    }

pub returns-in-Err-Refused : goal.returns-in-Err-Refused
returns-in-Err-Refused g c =
    let rules = rules_within c.args.audit.now.most c.args.audit.now.paths c.args.audit.now.react in
    let refused = rw c.in-Err-Refused.field-0-is at c.in-Err-Refused.ensures.refused in
    record {
      takes = takes-refused (auditor_state rules c.args.audit.now.auditor) c.args.event.now c.in-Err-Refused.refusal c.in_default.not-Collect (from_result_err _ c.in-Err-Refused.refusal refused);
      few = no_more c.args.audit.now.auditor c.apply.new.self c.in-Err-Refused.ensures.rest;
    }
