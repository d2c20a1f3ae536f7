use Rattle.std.proofs.Common.{◌≤◌, ℕ, All}
use Rattle.streams.specs.Streams.{Stream, stream_of}
use Rattle.trace_run.specs.Outcome.{Outside, outside_of}
use Rattle.trace_run.specs.Progress.{HasGiven, InProgress}
use Rattle.trace_run.proofs.LinesAhead.{StandsAhead}
use Rattle.trace_run.proofs.running.TraceRun.take_ahead.Given as goal

-- the run is under way behind the lines so far, and the others stand in the bytes behind them
abbrev pub invariant-loop-line : goal.invariant-loop-line
invariant-loop-line g l = record {
  given : HasGiven l.cutter l.number;
  few_events : g.P.Program.events l.self.program ≤ l.number;
  stand : All (StandsAhead l.cutter.pending l.place) l.line-items;
  place : l.first ≤ l.place;
  progress : (limit : ℕ) (first : g.P.Program.State) (start : Outside) (source : Stream) →
      InProgress g.P.Program.meaning limit first start (outside_of source (stream_of g.K.Sink.held g.K.Sink.faults l.fn.sink)) l.fn.cutter (g.P.Program.state l.fn.self.program) l.fn.lines →
      InProgress g.P.Program.meaning limit first start (outside_of source (stream_of g.K.Sink.held g.K.Sink.faults l.sink)) l.cutter (g.P.Program.state l.self.program) l.number;
  grown : l.fn.cutter.given ≤ l.cutter.given;
}
