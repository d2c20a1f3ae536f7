use Rattle.std.proofs.Common.{◌≡◌, vec_len, vec_capacity}
use Rattle.std.specs.List.{All}
use Rattle.crossbeam_utils.specs.Padded.{padded_value}
use Rattle.steal_pool.specs.Rests.{IsAtRest}
use Rattle.steal_pool.proofs.crew.Crew.with_cost.Given as goal

abbrev pub invariant-loop : goal.invariant-loop
invariant-loop g l = record {
  len : vec_len l.places ≡ l.counter;
  space : vec_capacity l.places ≡ l.fn.workers;
  rest : All (λ p. IsAtRest l.fn.workers l.fn.room (padded_value p)) l.places.items;
}
