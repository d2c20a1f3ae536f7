use Rattle.std.proofs.Common.{ℕ, List, refl}
use Rattle.streams.specs.Streams.{stream_of}
use Rattle.generator.specs.declared.plan.GenPlan.{GenPlan}
use Rattle.generator.specs.Text.{gen_text}
use Rattle.settings.specs.declared.settings.Settings.{Settings}
use Rattle.trace_run.specs.Outcome.{reading, outside_of}
use Rattle.audit_run.specs.Outcome.{EndsAs, report_by_rules, rules_under}
use Rattle.trace_run.proofs.Endings.{nothing_written}
use Rattle.audit_run.proofs.Plans.{as_planned}
use Rattle.audit_run.proofs.top_call.audit_with.Goals as goal

pub returns-in-Err-Usage-clause-refused : goal.returns-in-Err-Usage-clause-refused
returns-in-Err-Usage-clause-refused g c =
    λ _. (refl, c.refuse_words.ensures (stream_of g.S.Source.left g.S.Source.faults c.args.source.now))

pub returns-in-Err-OutOfMemory-clause-taken : goal.returns-in-Err-OutOfMemory-clause-taken
returns-in-Err-OutOfMemory-clause-taken g c = λ s _ _. nothing_written (report_by_rules (rules_under c.args.setup.limits s)) _ _ refl

pub returns-in-Some-clause-generated : goal.returns-in-Some-clause-generated
returns-in-Some-clause-generated g c =
    let source = stream_of g.S.Source.left g.S.Source.faults c.args.source.now in
    let old = outside_of source (stream_of g.K.Sink.held g.K.Sink.faults c.args.sink.now) in
    let new = outside_of source (stream_of g.K.Sink.held g.K.Sink.faults c.audit_generated.new.sink) in
    let Runs : Settings → GenPlan → Type 0 = λ s plan. (left : List ℕ) × EndsAs (rules_under c.args.setup.limits s) (reading (gen_text plan.number plan.size) old) (reading left new) c.audit_generated.result in
    λ s plan taken planned. (refl, as_planned _ s c.in-Ok.settings plan c.in-Some.trace Runs taken c.in-Ok.ensures.taken planned c.in-Some.is (c.audit_generated.ensures source))
