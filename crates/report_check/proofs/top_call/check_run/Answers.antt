use Rattle.std.proofs.Common.{refl}
use Rattle.streams.specs.Streams.{stream_of}
use Rattle.report_check.proofs.top_call.check_run.Goals as goal

pub returns-in_default-clause-refused : goal.returns-in_default-clause-refused
returns-in_default-clause-refused g c =
    λ _. (refl, refl, c.refuse_words.ensures (stream_of g.A.Source.left g.A.Source.faults c.args.trace.now))
