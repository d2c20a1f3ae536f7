use Rattle.std.proofs.Common.{refl}
use Rattle.streams.specs.Streams.{stream_of}
use Rattle.heap_base.specs.declared.limits.TheConstants.{LONGEST_TRACE}
use Rattle.trace_run.specs.Program.{report_by}
use Rattle.trace_run.specs.Outcome.{outside_of, trace_report}
use Rattle.trace_run.proofs.Causes.{equal_reports}
use Rattle.trace_run.proofs.Endings.{nothing_written}
use Rattle.trace_run.specs.Audits.{audit_meaning, audit_report, rules_within}
use Rattle.audit_run.specs.Auditors.{auditor_state}
use Rattle.audit_run.proofs.Collected.{is_reported}
use Rattle.audit_run.proofs.auditing.audit_trace.Goals as goal

pub returns-in_default : goal.returns-in_default
returns-in_default g c = nothing_written (trace_report LONGEST_TRACE (audit_report (rules_within c.args.audit.plan.limits c.args.audit.plan.paths c.args.audit.plan.react))) _ _ refl

pub returns : goal.returns
returns g c =
    let rules = rules_within c.args.audit.plan.limits c.args.audit.plan.paths c.args.audit.plan.react in
    let old = outside_of (stream_of g.S.Source.left g.S.Source.faults c.args.source.now) (stream_of g.K.Sink.held g.K.Sink.faults c.args.sink.now) in
    let new = outside_of (stream_of g.S.Source.left g.S.Source.faults c.run.new.source) (stream_of g.K.Sink.held g.K.Sink.faults c.run.new.sink) in
    equal_reports LONGEST_TRACE (report_by audit_meaning (auditor_state rules c.in-Ok.auditor)) (audit_report rules) old new c.run.result
    (is_reported rules c.in-Ok.auditor _ c.in-Ok.ensures.first) c.run.ensures
