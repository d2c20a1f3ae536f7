-- What contracts see of first tasks.
use Rattle.std.specs.Prelude.{ℕ, List}
use Rattle.steal_pool.specs.declared.task.Task.{Task}

-- a list for each worker, by its number, and how many tasks each has room for
pub record FirstLists : Type 0 where
  pub lists : List (List Task)
  pub room : ℕ
