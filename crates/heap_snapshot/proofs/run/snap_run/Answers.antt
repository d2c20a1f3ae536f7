use Rattle.streams.specs.Streams.{stream_of}
use Rattle.trace_run.specs.Outcome.{outside_of}
use Rattle.heap_snapshot.specs.Words.{usage_line}
use Rattle.heap_snapshot.proofs.AtTheEnd.{unwritten_from_trace, unwritten_usage}
use Rattle.heap_snapshot.proofs.run.snap_run.Goals as goal

pub returns-in-None-clause-refused : goal.returns-in-None-clause-refused
returns-in-None-clause-refused g c _ = c.refuse_words.ensures (stream_of g.S.Source.left g.S.Source.faults c.args.source.now)

pub returns-in-Some-FromTrace-clause-unwritten : goal.returns-in-Some-FromTrace-clause-unwritten
returns-in-Some-FromTrace-clause-unwritten g c failed = unwritten_from_trace _ _ failed c.from_trace.ensures

pub returns-in-None-clause-unwritten : goal.returns-in-None-clause-unwritten
returns-in-None-clause-unwritten g c failed =
    let source = stream_of g.S.Source.left g.S.Source.faults c.args.source.now in
    unwritten_usage (outside_of source _) (outside_of source _) failed usage_line (c.refuse_words.ensures source)
