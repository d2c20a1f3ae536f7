use Rattle.std.proofs.Common.{◌≡◌, ℕ, ◌<◌, ◌≤◌, [], length, slice_index_or, vec_capacity}
use Rattle.std.specs.List.{All}
use Rattle.steal_pool.proofs.first_tasks.FirstTasks.clear.Given as goal

abbrev pub invariant-loop-list : goal.invariant-loop-list
invariant-loop-list l = record {
  len : length l.list-items ≡ length l.fn.self.lists;
  reserved : All (λ v. l.fn.self.room ≤ vec_capacity v) l.list-items;
  cleared : (k : ℕ) (d : _) → k < l.list-index → (slice_index_or l.list-items k d).items ≡ [];
}
