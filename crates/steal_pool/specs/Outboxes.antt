-- What contracts see of an outbox.
use Rattle.std.specs.Prelude.{ℕ, List, []}
use Rattle.steal_pool.specs.declared.task.Task.{Task}

-- the tasks that it holds, in order, and how many it has room for in all
pub record HeldTasks : Type 0 where
  pub tasks : List Task
  pub room : ℕ

abbrev pub empty_outbox : ℕ → HeldTasks
empty_outbox n = record { tasks = []; room = n }
