-- What a worker's share of a round needs, and what work makes of it.
use Rattle.std.specs.Prelude.{◌≡◌, ◌+◌, ◌≤◌, List, [], ◌++◌, length, take, drop, Some, slice_get}
use Rattle.std.specs.Arc.{arc_value}
use Rattle.steal_pool.specs.declared.task.Task.{Task}
use Rattle.steal_pool.specs.Jobs.{Meaning, Does, AllFit}
use Rattle.parked_crew.specs.declared.task_share.JobShare.{JobShare}

module _ {S J G : Type 0} where
  abbrev pub shared_in : JobShare S J G → S
  shared_in p = arc_value p.shared

  -- its list, and behind it what it put
  abbrev pub queue : JobShare S J G → List Task
  queue p = p.list.items ++ p.out.tasks

  -- the tasks that it did
  abbrev pub done_in : JobShare S J G → List Task
  done_in p = take p.done (queue p)

  -- those that it left
  abbrev pub left_in : JobShare S J G → List Task
  left_in p = drop p.done (queue p)

  -- the next task was taken up
  abbrev pub IsNext : JobShare S J G → JobShare S J G → Task → Type 0
  IsNext p q t = (q ≡ record p { done = p.done + 1 }) × (slice_get (queue p) p.done ≡ Some t)

  -- the share p at the beginning of the next round, with some list
  pub record IsBegun (p q : JobShare S J G) : Type 0 where
    pub job : q.job ≡ p.job
    pub none_put : q.out.tasks ≡ []
    pub none_done : q.done ≡ 0
    pub shared : q.shared ≡ p.shared
    pub out_room : q.out.room ≡ p.out.room

  -- with this list
  abbrev pub IsDealt : JobShare S J G → List Task → JobShare S J G → Type 0
  IsDealt p list q = IsBegun p q × (q.list.items ≡ list)

  -- all of its list is done, and no more than there is
  abbrev pub HasDoneList : JobShare S J G → Type 0
  HasDoneList p = (length p.list.items ≤ p.done) × (p.done ≤ length (queue p))

  module _ (M : Meaning J S) where
    -- A share at the beginning of a round: nothing was put, and there are room and turns for all that may be.
    pub record CanWork (p : JobShare S J G) : Type 0 where
      pub ready : M.ready p.job (shared_in p)
      pub are_fit : AllFit (M.fit p.job (shared_in p)) p.list.items
      pub none_put : p.out.tasks ≡ []
      pub none_done : p.done ≡ 0
      pub spare : M.room p.job ≤ p.out.room
      pub turns : length p.list.items + M.room p.job ≤ M.turns p.job

    -- The share p became q by doing tasks, in order.
    pub record Goes (p q : JobShare S J G) : Type 0 where
      pub does : Does (M.works (shared_in p)) p.job (done_in q) (record { job = q.job; put = q.out.tasks })
      pub are_fit : AllFit (M.fit p.job (shared_in p)) q.out.tasks
      pub ready : M.ready q.job (shared_in p)
      pub same_fit : M.fit q.job (shared_in p) ≡ M.fit p.job (shared_in p)
      pub room : M.room q.job + length q.out.tasks ≤ M.room p.job
      pub turns : M.turns p.job ≤ M.turns q.job + q.done
      pub few : q.done ≤ length (queue q)
      pub list : q.list ≡ p.list
      pub shared : q.shared ≡ p.shared
      pub out_room : q.out.room ≡ p.out.room

    -- It did its list, and then some of what it put.
    pub record Worked (p q : JobShare S J G) : Type 0 where
      pub goes : Goes p q
      pub whole : length q.list.items ≤ q.done
