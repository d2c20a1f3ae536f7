use Rattle.std.proofs.Common.{arith}
use Rattle.std.proofs.Math.Seq.{take-add}
use Rattle.std.proofs.lemmas.List.{take_rest}
use Rattle.std.proofs.KnownBytes.{Appends-trans}
use Rattle.streams.proofs.sink.put_all.Goals as goal

pub loop-done-preserved : goal.loop-done-preserved
loop-done-preserved g c = (
  omega (arith, c.in_ok-done.ensures.bound),
  rw take-add (Appends-trans _ _ _ _ _ c.loop-done.invariant.1 (rw take_rest at c.in_ok-done.ensures.bytes)),
  omega (arith, c.in_ok-done.ensures.cause.later),
)
