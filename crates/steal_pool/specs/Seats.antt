-- A place takes a job and first tasks, and gives the job back.
use Rattle.std.specs.Prelude.{◌≡◌, ℕ, ◌+◌, ◌<◌, true, List, length, Some, None, is_some}
use Rattle.crossbeam_utils.specs.Padded.{padded_value}
use Rattle.crossbeam_utils.specs.declared.cache_padded.CachePadded.{CachePadded}
use Rattle.steal_pool.specs.declared.task.Task.{Task}
use Rattle.crossbeam_deque.specs.Handles.{worker_deque}
use Rattle.steal_pool.specs.declared.place.Place.{Place}
use Rattle.steal_pool.specs.Jobs.{Meaning, AllFit}
use Rattle.heap_base.specs.Counting.{total}
use Rattle.steal_pool.specs.Steps.{renewed_hand}
use Rattle.steal_pool.specs.Lanes.{own_hand}

abbrev pub TakesJob : {J : Type 0} → Place J → J → Place J → Type 0
TakesJob p j q = q ≡ record p { job = Some j }

abbrev pub GivesJob : {J : Type 0} → Place J → J → Place J → Type 0
GivesJob p j q = (p.job ≡ Some j) × (q ≡ record p { job = None })

-- a place, and the tasks that it is to begin a run with
pub record Opening (J : Type 0) : Type 0 where
  pub place : Place J
  pub first : List Task

abbrev pub opening : {J : Type 0} → Place J → List Task → Opening J
opening p first = record { place = p; first = first }

-- the place has a job, and may begin with these tasks
pub record CanBegin {J S : Type 0} (M : Meaning J S) (s : S) (o : Opening J) : Type 0 where
  pub job : J
  pub is : o.place.job ≡ Some job
  pub whole : (own_hand o.place.lane).rights ≡ 16
  pub emptied : (h : Task → ℕ) → total h (own_hand o.place.lane).put ≡ total h (own_hand o.place.lane).took
  pub room : length o.first + M.room job < o.place.queue.room
  pub are_fit : AllFit (M.fit job s) o.first

-- the place q has begun
pub record Begins {J S : Type 0} (M : Meaning J S) (s : S) (o : Opening J) (q : Place J) : Type 0 where
  pub job : J
  pub is : o.place.job ≡ Some job
  pub hand : own_hand q.lane ≡ renewed_hand (M.fit job s) (length o.first + M.room job)
  pub deque : worker_deque q.lane.owner ≡ worker_deque o.place.lane.owner
  pub tasks : q.queue.tasks ≡ o.first
  pub spare : q.queue.spare + length o.first ≡ o.place.queue.room
  pub room : q.queue.room ≡ o.place.queue.room
  pub rest : q ≡ record o.place { lane = q.lane; queue = q.queue; count = q.count }

abbrev pub HasSomeJob : {J : Type 0} → CachePadded (Place J) → Type 0
HasSomeJob {J} p = let q : Place J = padded_value p in is_some q.job ≡ true
