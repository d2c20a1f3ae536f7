use Rattle.heap_snapshot.proofs.Returning.{round_trips}
use Rattle.heap_snapshot.proofs.laws.a_snapshot_comes_back_from_its_trace.Goals as goal

pub returns : goal.returns
returns c = round_trips
