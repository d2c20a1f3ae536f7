-- What a job means, and what it did with a list of tasks.
use Rattle.std.specs.Prelude.{◌≡◌, ℕ, ◌+◌, ◌≤◌, List, [], ◌∷◌, ◌++◌, length}
use Rattle.std.specs.List.{Contains, AllByRecursion}
use Rattle.steal_pool.specs.declared.task.Task.{Task}

-- A job after it did one task or more, and the tasks that it put meanwhile, in order.
pub record JobAfter (J : Type 0) : Type 0 where
  pub job : J
  pub put : List Task

-- What a job J means beside a shared value S.
-- ready: what `work` needs and keeps
-- fit: the tasks that it may be asked to do and may put, which `work` does not change
-- room: how many tasks it may still put, at most
-- turns: how many tasks it may still be asked to do, at least
-- works: what a job may become by a task, and put meanwhile, beside the shared value
pub record Meaning (J S : Type 0) : Type 1 where
  pub ready : J → S → Type 0
  pub fit : J → S → List Task
  pub room : J → ℕ
  pub turns : J → ℕ
  pub works : S → J → Task → JobAfter J → Type 0

-- each task stands in the list
abbrev pub AllFit : List Task → List Task → Type 0
AllFit fit ts = AllByRecursion (Contains fit) ts

-- A job that is to do a task, and the tasks that are in its outbox.
pub record TaskTurn (J : Type 0) : Type 0 where
  pub job : J
  pub task : Task
  pub outbox : List Task

-- Of a turn, and of the job and its outbox behind it: the job put tasks behind those that were there, all fit, and its
-- room fell by their number or more.
pub record Puts {J S : Type 0} (M : Meaning J S) (s : S) (turn : TaskTurn J) (new : J × List Task) : Type 0 where
  pub put : List Task
  pub tasks : new.1 ≡ turn.outbox ++ put
  pub works : M.works s turn.job turn.task (record { job = new.0; put = put })
  pub are_fit : AllFit (M.fit turn.job s) put
  pub room : M.room new.0 + length put ≤ M.room turn.job

-- By a relation `works` of one task, what a job may become by a list of tasks, in order, and put meanwhile.
module _ {J : Type 0} (works : J → Task → JobAfter J → Type 0) where
  abbrev pub Does : J → List Task → JobAfter J → Type 0
  Does j [] after = (after.job ≡ j) × (after.put ≡ [])
  Does j (t ∷ ts) after =
      (i : J) × (q : List Task) × (r : List Task) × works j t (record { job = i; put = q })
      × Does i ts (record { job = after.job; put = r }) × (after.put ≡ q ++ r)
