use Rattle.std.proofs.Common.{◌≡◌, ◌^◌, vec_len, vec_capacity}
use Rattle.std.specs.List.{All}
use Rattle.tests_support.proofs.counters.new_counters.Given as goal

abbrev pub invariant-loop : goal.invariant-loop
invariant-loop l = record {
  len : vec_len l.jobs ≡ l.counter;
  space : vec_capacity l.jobs ≡ l.fn.workers;
  each : All (λ j. (j.room ≡ l.fn.cells) × (j.turns ≡ 2 ^ 40)) l.jobs.items;
}
