use Rattle.trace_reader.proofs.UsualLemmas.{ended}
use Rattle.trace_reader.proofs.usual.ends_behind.Goals as goal

pub returns-in-None : goal.returns-in-None
returns-in-None c = λ last. rw c.in-None.is (ended c.args.reader (c.is_at_end.ensures last))
