use Rattle.std.proofs.Common.{◌-◌, ◌≤◌}
use Rattle.streams.specs.Streams.{stream_of}
use Rattle.trace_run.specs.Outcome.{outside_of}
use Rattle.trace_run.specs.Progress.{InProgress}
use Rattle.trace_run.proofs.running.TraceRun.run.Given as goal

abbrev pub invariant-trace : goal.invariant-trace
invariant-trace g l =
    InProgress g.P.Program.meaning l.limit (g.P.Program.state l.initial.self.program)
    (outside_of (stream_of g.S.Source.left g.S.Source.faults l.initial.source) (stream_of g.K.Sink.held g.K.Sink.faults l.initial.sink))
    (outside_of (stream_of g.S.Source.left g.S.Source.faults l.source) (stream_of g.K.Sink.held g.K.Sink.faults l.sink))
    l.cutter (g.P.Program.state l.self.program) l.lines
    × (g.P.Program.events l.self.program ≤ l.lines)
    × g.L.EventReader.ready l.reader

abbrev pub decreases-trace : goal.decreases-trace
decreases-trace g l = l.limit - l.cutter.given
