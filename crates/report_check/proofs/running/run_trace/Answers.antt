use Rattle.std.proofs.Common.{refl, ap, ◌∙◌}
use Rattle.graph_meaning.specs.declared.reaction.React.TheVariants.{Report}
use Rattle.heap_base.specs.declared.limits.TheConstants.{LONGEST_TRACE}
use Rattle.streams.specs.Streams.{stream_of}
use Rattle.trace_run.specs.Audits.{AuditState, audit_meaning, audit_report, rules_by}
use Rattle.trace_run.specs.Outcome.{outside_of, trace_report}
use Rattle.trace_run.specs.Program.{report_by}
use Rattle.trace_run.proofs.Causes.{equal_reports}
use Rattle.trace_run.proofs.Endings.{nothing_written}
use Rattle.trace_run.proofs.Reports.{audit_is_reported}
use Rattle.report_check.specs.States.{checked_state}
use Rattle.report_check.proofs.running.run_trace.Goals as goal

pub returns-in_default : goal.returns-in_default
returns-in_default g c = nothing_written (trace_report LONGEST_TRACE (audit_report (rules_by c.args.paths Report))) _ _ refl

pub returns : goal.returns
returns g c =
    let rules = rules_by c.args.paths Report in
    let old = outside_of (stream_of g.A.Source.left g.A.Source.faults c.args.trace.now) (stream_of g.K.Sink.held g.K.Sink.faults c.args.sink.now) in
    let new = outside_of (stream_of g.A.Source.left g.A.Source.faults c.run.new.source) (stream_of g.K.Sink.held g.K.Sink.faults c.run.new.sink) in
    equal_reports LONGEST_TRACE (report_by audit_meaning (checked_state c.in-Ok.program)) (audit_report rules) old new c.run.result
    (λ items. ap (λ (s : AuditState). report_by audit_meaning s items) c.in-Ok.ensures.first ∙ audit_is_reported rules items)
    c.run.ensures
