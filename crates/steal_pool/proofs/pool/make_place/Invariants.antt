use Rattle.std.proofs.Common.{◌≡◌, ◌+◌, vec_len, vec_capacity}
use Rattle.std.specs.List.{All}
use Rattle.crossbeam_deque.specs.Handles.{worker_deque}
use Rattle.steal_pool.specs.Loans.{IsThiefOf}
use Rattle.steal_pool.proofs.pool.make_place.Given as goal

abbrev pub invariant-loop : goal.invariant-loop
invariant-loop g l = record {
  len : vec_len l.spare + 1 ≡ l.counter;
  space : vec_capacity l.spare ≡ l.fn.workers;
  kin : All (IsThiefOf (worker_deque l.owner)) l.spare.items;
}
