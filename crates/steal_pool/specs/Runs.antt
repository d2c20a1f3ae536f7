-- What a run asks of the jobs and the first tasks, and what it leaves.
use Rattle.std.specs.Prelude.{◌≡◌, ℕ, ◌+◌, ◌<◌, ◌≤◌, List, [], ◌∷◌, ◌++◌, length, vec_len}
use Rattle.std.specs.List.{All, flat_map}
use Rattle.steal_pool.specs.declared.task.Task.{Task}
use Rattle.heap_base.specs.Counting.{total, AsOften}
use Rattle.crossbeam_utils.specs.Padded.{padded_value}
use Rattle.steal_pool.specs.declared.crew.Crew.{Crew}
use Rattle.steal_pool.specs.Jobs.{Meaning, Does, AllFit}
use Rattle.steal_pool.specs.Lists.{Each, Pairs}
use Rattle.steal_pool.specs.Rests.{IsEmpty}

abbrev pub workers_of : {J : Type 0} → Crew J → ℕ
workers_of c = vec_len c.places

abbrev pub room_of : {J : Type 0} → Crew J → ℕ
room_of c = c.room

-- no task waits at a worker, and all that was put into each deque was taken from it
abbrev pub HasNoTasks : {J : Type 0} → Crew J → Type 0
HasNoTasks c = All (λ p. IsEmpty (padded_value p)) c.places.items

-- Of jobs that mean M.
module _ {J S : Type 0} (M : Meaning J S) where
  -- the fit tasks of the first job, which are those of every job of a run
  abbrev pub fit_tasks : S → List J → List Task
  fit_tasks s [] = []
  fit_tasks s (j ∷ js) = M.fit j s

  -- every job is ready
  abbrev pub AreReady : S → List J → Type 0
  AreReady s js = All (λ j. M.ready j s) js

  -- these are the fit tasks of every job
  abbrev pub ShareFit : S → List Task → List J → Type 0
  ShareFit s fit js = All (λ j. M.fit j s ≡ fit) js

  -- each worker's list of first tasks and its job's room add up to less than n
  abbrev pub HaveRoom : ℕ → List J → List (List Task) → Type 0
  HaveRoom n js fs = Pairs (λ j f. length f + M.room j < n) js fs

  -- the lengths of all lists of first tasks and the rooms of all jobs, added up
  abbrev pub most_tasks : List J → List (List Task) → ℕ
  most_tasks js fs = total length fs + total M.room js

  -- every job has turns for so many tasks
  abbrev pub HaveTurns : ℕ → List J → Type 0
  HaveTurns n js = All (λ j. n ≤ M.turns j) js

  -- no job's turns fell by more than n
  abbrev pub TurnsLast : ℕ → List J → List J → Type 0
  TurnsLast n js ks = Pairs (λ j k. M.turns j ≤ M.turns k + n) js ks

-- what a job did in a run, and what it put meanwhile, both in order
pub record Work : Type 0 where
  pub done : List Task
  pub put : List Task

abbrev pub all_first : List (List Task) → List Task
all_first fs = flat_map (λ f. f) fs

abbrev pub all_done : List Work → List Task
all_done ws = flat_map (λ (w : Work). w.done) ws

abbrev pub all_put : List Work → List Task
all_put ws = flat_map (λ (w : Work). w.put) ws

-- What the workers of a run begin with: a job, and a list of first tasks, for each.
pub record Workload (J : Type 0) : Type 0 where
  pub jobs : List J
  pub first : List (List Task)

-- What a run did with this workload, after which the jobs are ks.
-- each: each job is as `work` may leave it after the tasks that it did, in order
-- are_fit: every task that was done is fit
-- as_often: what was done is what was first and what was put, each task as often
pub record Run {J S : Type 0} (M : Meaning J S) (s : S) (load : Workload J) (ks : List J) : Type 0 where
  pub work : List Work
  pub each : Each (λ j (w : Work) k. Does (M.works s) j w.done (record { job = k; put = w.put })) load.jobs work ks
  pub are_fit : All (λ (w : Work). AllFit (fit_tasks M s load.jobs) w.done) work
  pub as_often : AsOften (all_done work) (all_first load.first ++ all_put work)
