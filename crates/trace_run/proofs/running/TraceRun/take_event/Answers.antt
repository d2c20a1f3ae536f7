use Rattle.std.proofs.Common.{◌+◌, Ok, Err, ap}
use Rattle.streams.specs.Streams.{stream_of}
use Rattle.trace_run.specs.Program.{Effect, TakesEvent, by_effect, due_text, ends_so, halted}
use Rattle.trace_run.proofs.Turns.{ends-failed, ends-halted}
use Rattle.trace_run.proofs.running.TraceRun.take_event.Goals as goal

pub returns-in-Ok-GoesOn-Some-clause-takes : goal.returns-in-Ok-GoesOn-Some-clause-takes
returns-in-Ok-GoesOn-Some-clause-takes g c = λ on.
    let took : TakesEvent (g.P.Program.meaning.takes (g.P.Program.state c.args.self.now.program) c.args.event.now) (Ok c.in-Ok-GoesOn-Some.field-0) (g.P.Program.state c.take.new.arg2) =
    c.requires.takes _ _ _ _ _ _ c.in-Ok-GoesOn-Some.ensures in
    let effect = rw (c.in-Ok-GoesOn-Some.field-0-is, c.in-Ok-GoesOn-Some.field-0-0-is) at took in
    ends-failed (stream_of g.K.Sink.held g.K.Sink.faults c.args.sink.now) (stream_of g.K.Sink.held g.K.Sink.faults c.write_due.new.sink) (due_text c.in-Ok-GoesOn-Some.due)
    _ (on (g.P.Program.state c.take.new.arg2)) c.in-Err.error c.failed.result (ap (λ (e : Effect g.P.Program.State). by_effect (c.args.lines + 1) e on) effect) c.failed.ensures
    c.in-Err.ensures.part (λ e. c.in-Err.ensures.failed (ap Err e))

pub returns-in-Ok-Halts-clause-takes : goal.returns-in-Ok-Halts-clause-takes
returns-in-Ok-Halts-clause-takes g c = λ on.
    let took : TakesEvent (g.P.Program.meaning.takes (g.P.Program.state c.args.self.now.program) c.args.event.now) (Ok c.in-Ok-Halts.field-0) (g.P.Program.state c.take.new.arg2) =
    c.requires.takes _ _ _ _ _ _ c.in-Ok-Halts.ensures in
    let effect = rw c.in-Ok-Halts.field-0-is at took in
    ends-failed (stream_of g.K.Sink.held g.K.Sink.faults c.args.sink.now) (stream_of g.K.Sink.held g.K.Sink.faults c.write_due-in-Ok-Halts.new.sink) (due_text c.in-Ok-Halts.due)
    _ (ends_so (halted effect.0)) c.in-Err-write_due.error c.failed-in-Err-write_due.result (ap (λ (e : Effect g.P.Program.State). by_effect (c.args.lines + 1) e on) effect.1)
    c.failed-in-Err-write_due.ensures c.in-Err-write_due.ensures.part (λ e. c.in-Err-write_due.ensures.failed (ap Err e))

pub returns-in-Ok-write_due-clause-takes : goal.returns-in-Ok-write_due-clause-takes
returns-in-Ok-write_due-clause-takes g c =
    let took : TakesEvent (g.P.Program.meaning.takes (g.P.Program.state c.args.self.now.program) c.args.event.now) (Ok c.in-Ok-Halts.field-0) (g.P.Program.state c.take.new.arg2) =
    c.requires.takes _ _ _ _ _ _ c.in-Ok-Halts.ensures in
    let effect = rw c.in-Ok-Halts.field-0-is at took in
    ends-halted (g.P.Program.meaning.takes (g.P.Program.state c.args.self.now.program) c.args.event.now) (c.args.lines + 1)
    (stream_of g.K.Sink.held g.K.Sink.faults c.args.sink.now) (stream_of g.K.Sink.held g.K.Sink.faults c.write_due-in-Ok-Halts.new.sink)
    (stream_of g.K.Sink.held g.K.Sink.faults c.put_last.new.sink) (due_text c.in-Ok-Halts.due) effect.0 c.in-Ok-Halts.last c.put_last.result effect.1
    effect.2 c.in-Ok-write_due.ensures.whole c.in-Ok-write_due.ensures.later c.put_last.ensures.halts
