use Rattle.std.proofs.Common.{ℕ, List, subst}
use Rattle.streams.specs.Streams.{stream_of}
use Rattle.trace_run.specs.Outcome.{reading, outside_of}
use Rattle.audit_run.specs.Outcome.{EndsAs, rules_under}
use Rattle.audit_run.proofs.top_call.audit_generated.Goals as goal

pub returns : goal.returns
returns g c =
    λ stream.
    let old = outside_of stream (stream_of g.K.Sink.held g.K.Sink.faults c.args.sink.now) in
    let new = outside_of stream (stream_of g.K.Sink.held g.K.Sink.faults c.audit_by.new.sink) in
    let Reads : List ℕ → Type 0 = λ bytes. EndsAs (rules_under c.args.setup.limits c.args.settings) (reading bytes old) (reading c.audit_by.new.source new) c.audit_by.result in
    (c.audit_by.new.source, subst Reads c.in-Ok.ensures.left c.audit_by.ensures)
