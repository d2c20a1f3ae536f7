use Rattle.std.proofs.Common.{◌≡◌, vec_len}
use Rattle.parked_crew.proofs.running.start_all.Given as goal

abbrev pub invariant-loop : goal.invariant-loop
invariant-loop g l = vec_len l.workers ≡ l.counter
