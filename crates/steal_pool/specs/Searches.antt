-- What a worker's search for a task does to the places where it looks.
use Rattle.std.specs.Prelude.{◌≡◌, ℕ, ◌+◌, ◌≤◌, List, [], ◌++◌}
use Rattle.std.specs.List.{Contains}
use Rattle.steal_pool.specs.declared.task.Task.{Task}
use Rattle.heap_base.specs.Counting.{total}
use Rattle.crossbeam_deque.specs.Handles.{worker_deque}
use Rattle.steal_pool.specs.declared.lane.Lane.{Lane}
use Rattle.steal_pool.specs.declared.victim.Victim.{Victim}
use Rattle.steal_pool.specs.Hands.{one}
use Rattle.steal_pool.specs.Jobs.{AllFit}
use Rattle.steal_pool.specs.Lanes.{own_hand, HasTakenFew}
use Rattle.steal_pool.specs.Queues.{Waiting}
use Rattle.steal_pool.specs.Steps.{IsEmptied, with_put}
use Rattle.steal_pool.specs.Victims.{AreUntouched, AreSameButTook, AreOnTerms, total_took}

-- a worker's queue, its deque and the others' deques
pub record TaskSources : Type 0 where
  pub queue : Waiting
  pub lane : Lane
  pub others : List Victim

abbrev pub sources : Waiting → Lane → List Victim → TaskSources
sources q l rs = record { queue = q; lane = l; others = rs }

-- the weights of all that the worker's hands took
abbrev pub total_taken : (Task → ℕ) → TaskSources → ℕ
total_taken h a = total h (own_hand a.lane).took + total_took h a.others

-- the task came from one of them, and the rest stayed
pub record FindsTask (a : TaskSources) (t : Task) (b : TaskSources) : Type 0 where
  pub sum : (h : Task → ℕ) → h t + total h b.queue.tasks + total_taken h a ≡ total h a.queue.tasks + total_taken h b
  pub fewer : total one b.queue.tasks ≤ total one a.queue.tasks
  pub is_fit : (fit : List Task) → AllFit fit a.queue.tasks → (own_hand a.lane).fit ≡ fit → AreOnTerms fit a.others → Contains fit t
  pub rest_fit : (fit : List Task) → AllFit fit a.queue.tasks → AllFit fit b.queue.tasks
  pub queue : b.queue ≡ record a.queue { tasks = b.queue.tasks }
  pub hand : own_hand b.lane ≡ record (own_hand a.lane) { took = (own_hand b.lane).took }
  pub few : HasTakenFew a.lane → HasTakenFew b.lane
  pub deque : worker_deque b.lane.owner ≡ worker_deque a.lane.owner
  pub others : AreSameButTook a.others b.others

-- no task was found: none waits, and the worker's own deque was empty
pub record FindsNone (a b : TaskSources) : Type 0 where
  pub none : a.queue.tasks ≡ []
  pub emptied : IsEmptied (own_hand a.lane)
  pub queue : b.queue ≡ a.queue
  pub hand : own_hand b.lane ≡ own_hand a.lane
  pub deque : worker_deque b.lane.owner ≡ worker_deque a.lane.owner
  pub others : AreUntouched a.others b.others

-- the first tasks of the queue went to the deque
pub record Offers (a b : TaskSources) : Type 0 where
  pub moved : List Task
  pub tasks : a.queue.tasks ≡ moved ++ b.queue.tasks
  pub queue : b.queue ≡ record a.queue { tasks = b.queue.tasks }
  pub hand : own_hand b.lane ≡ with_put (own_hand a.lane) moved
  pub deque : worker_deque b.lane.owner ≡ worker_deque a.lane.owner
  pub others : b.others ≡ a.others
