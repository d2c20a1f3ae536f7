use Rattle.std.proofs.Common.{◌≡◌, ◌++◌, ◌+◌, ◌≤◌, length}
use Rattle.std.specs.Prelude.{vec_len, vec_capacity}
use Rattle.std.specs.Vec.Iter.{into_iter_items, into_iter_len}
use Rattle.parked_crew.proofs.rounds.Sent.send_all.Given as goal

abbrev pub invariant-loop-round : goal.invariant-loop-round
invariant-loop-round g l = record {
  all : l.yielded ++ into_iter_items l.round-iterator ≡ into_iter_items l.initial.round-iterator;
  left : into_iter_len l.round-iterator ≡ length (into_iter_items l.round-iterator);
  made : l.self.rounds.items ≡ l.yielded;
  count : vec_len l.self.rounds + length (into_iter_items l.round-iterator) ≡ length l.workers;
  few : vec_len l.self.left ≤ vec_len l.self.rounds;
  room : (length l.workers ≤ vec_capacity l.self.rounds) × (length l.workers ≤ vec_capacity l.self.left);
}
