use Rattle.std.proofs.Common.{◌≡◌, Ok, Some, ap, ◌∙◌}
use Rattle.streams.specs.Streams.{stream_of}
use Rattle.trace_reader.specs.Meaning.{event as event_item}
use Rattle.trace_run.proofs.Turns.{TakesLine-at}
use Rattle.trace_run.proofs.running.TraceRun.take_told.Goals as goal

pub returns-in-Some-clause-takes : goal.returns-in-Some-clause-takes
returns-in-Some-clause-takes g c = λ item tells.
    let told : c.args.told.now ≡ Ok (Some c.in-Some.event) = c.in-Ok.is ∙ ap Ok c.in-Some.is in
    TakesLine-at g.P.Program.meaning (g.P.Program.state c.args.self.now.program) (g.P.Program.state c.take_event.new.self.program) c.args.lines
    (event_item c.in-Some.event) item (stream_of g.K.Sink.held g.K.Sink.faults c.args.sink.now)
    (stream_of g.K.Sink.held g.K.Sink.faults c.take_event.new.sink) c.take_event.result (rw told at tells) c.take_event.ensures.takes
