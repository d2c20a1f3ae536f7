use Rattle.minor_gc.proofs.Surviving.{survivors_keep_slots}
use Rattle.minor_gc.proofs.laws.survivors_keep_their_slots.Goals as goal

pub returns : goal.returns
returns c = survivors_keep_slots
