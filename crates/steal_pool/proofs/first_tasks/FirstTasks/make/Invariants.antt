use Rattle.std.proofs.Common.{◌≡◌, ◌≤◌, [], map, replicate, vec_len, vec_capacity}
use Rattle.std.specs.List.{All}
use Rattle.steal_pool.proofs.first_tasks.FirstTasks.make.Given as goal

abbrev pub invariant-loop : goal.invariant-loop
invariant-loop l = record {
  len : vec_len l.lists ≡ l.counter;
  space : vec_capacity l.lists ≡ l.fn.workers;
  reserved : All (λ v. l.fn.room ≤ vec_capacity v) l.lists.items;
  empty : map (λ v. v.items) l.lists.items ≡ replicate l.counter [];
}
