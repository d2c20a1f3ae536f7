-- What a worker needs to go on, and what its turns do.
use Rattle.std.specs.Prelude.{◌≡◌, ℕ, ◌+◌, ◌-◌, ◌≤◌, List, [], length, Option, Some, None, vec_capacity}
use Rattle.steal_pool.specs.declared.task.Task.{Task}
use Rattle.heap_base.specs.Counting.{total}
use Rattle.crossbeam_deque.specs.Handles.{worker_deque}
use Rattle.steal_pool.specs.declared.place.Place.{Place}
use Rattle.steal_pool.specs.Hands.{one}
use Rattle.steal_pool.specs.Jobs.{Meaning, Does, AllFit}
use Rattle.steal_pool.specs.Lanes.{own_hand}
use Rattle.steal_pool.specs.Searches.{TaskSources, sources, total_taken}
use Rattle.steal_pool.specs.Steps.{IsEmptied}
use Rattle.steal_pool.specs.Victims.{AreOnTerms, AreSameButTook, total_bound}

-- how many tasks the worker may still come by, and those that it took
abbrev pub most_left : ℕ → TaskSources → ℕ
most_left room a = total one a.queue.tasks + room + total one (own_hand a.lane).put + total_bound a.others

-- A worker with this job and these sources may go on: all hands are on the job's terms, what waits is fit, there is
-- room for all that the job may put, and the job's turns are enough for all tasks that the worker may come by.
pub record CanWork {J S : Type 0} (M : Meaning J S) (s : S) (job : J) (a : TaskSources) : Type 0 where
  pub ready : M.ready job s
  pub terms : (own_hand a.lane).fit ≡ M.fit job s
  pub others : AreOnTerms (M.fit job s) a.others
  pub waiting : AllFit (M.fit job s) a.queue.tasks
  pub spare : M.room job ≤ a.queue.spare
  pub bound : total one (own_hand a.lane).put + total one a.queue.tasks + M.room job ≤ (own_hand a.lane).bound
  pub turns : most_left (M.room job) a ≤ M.turns job + total_taken one a

-- The job and its sources, before and after some turns. What the worker came by is what it did, what still waits, and
-- what it offered.
pub record Advances {J S : Type 0} (M : Meaning J S) (s : S) (x y : J × TaskSources) : Type 0 where
  pub done : List Task
  pub put : List Task
  pub does : Does (M.works s) x.0 done (record { job = y.0; put = put })
  pub are_fit : AllFit (M.fit x.0 s) done
  pub same_fit : M.fit y.0 s ≡ M.fit x.0 s
  pub falls : M.room y.0 + length put ≤ M.room x.0
  pub turns : M.turns x.0 ≤ M.turns y.0 + length done
  pub sum : (h : Task → ℕ) →
      total h done + total h y.1.queue.tasks + total h (own_hand y.1.lane).put + total_taken h x.1 ≡ total h put + total h x.1.queue.tasks + total h (own_hand x.1.lane).put + total_taken h y.1
  pub room : y.1.queue.room ≡ x.1.queue.room
  pub hand : own_hand y.1.lane ≡ record (own_hand x.1.lane) { put = (own_hand y.1.lane).put; took = (own_hand y.1.lane).took }
  pub deque : worker_deque y.1.lane.owner ≡ worker_deque x.1.lane.owner
  pub others : AreSameButTook x.1.others y.1.others

-- ---- the same of a place

abbrev pub task_sources_of : {J : Type 0} → Place J → TaskSources
task_sources_of p = sources p.queue p.lane p.others.items

-- the room of the job, where one is there
abbrev pub room_in : {J S : Type 0} → Meaning J S → Option J → ℕ
room_in M None = 0
room_in M (Some j) = M.room j

-- how many more tasks the worker of the place may do
abbrev pub tasks_left : {J S : Type 0} → Meaning J S → Place J → ℕ
tasks_left M p = most_left (room_in M p.job) (task_sources_of p) - total_taken one (task_sources_of p)

pub record CanStart {J S : Type 0} (M : Meaning J S) (s : S) (p : Place J) : Type 0 where
  pub job : J
  pub is : p.job ≡ Some job
  pub can : CanWork M s job (task_sources_of p)

-- the place p became q by turns of its worker, which may go on
pub record EndsWork {J S : Type 0} (M : Meaning J S) (s : S) (p q : Place J) : Type 0 where
  pub old : J
  pub new : J
  pub was : p.job ≡ Some old
  pub is : q.job ≡ Some new
  pub went : Advances M s (old, task_sources_of p) (new, task_sources_of q)
  pub can : CanWork M s new (task_sources_of q)
  pub spare : q.spare ≡ p.spare
  pub space : vec_capacity q.others ≡ vec_capacity p.others

-- no task waits, and with all the rights the deque is empty
pub record HasNone {J : Type 0} (p : Place J) : Type 0 where
  pub waits : p.queue.tasks ≡ []
  pub emptied : IsEmptied (own_hand p.lane)
