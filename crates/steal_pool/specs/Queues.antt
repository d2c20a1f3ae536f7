-- What contracts see of a worker's queue.
use Rattle.std.specs.Prelude.{ℕ, List, []}
use Rattle.steal_pool.specs.declared.task.Task.{Task}

-- the tasks that wait, in order, how many more may come, and how many may come in all between two times that it is
-- cleared
pub record Waiting : Type 0 where
  pub tasks : List Task
  pub spare : ℕ
  pub room : ℕ

abbrev pub empty_queue : ℕ → Waiting
empty_queue n = record { tasks = []; spare = n; room = n }
