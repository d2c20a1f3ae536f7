use Rattle.heap_snapshot.proofs.AtTheEnd.{writes_at_the_end}
use Rattle.heap_snapshot.proofs.laws.a_snapshot_is_written_at_the_end.Goals as goal

pub returns : goal.returns
returns c = writes_at_the_end
