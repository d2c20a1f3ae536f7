-- How far a run by rounds has come.
use Rattle.std.specs.Prelude.{◌≡◌, ℕ, ◌+◌, ◌≤◌, List, [], length, map}
use Rattle.std.specs.List.{flat_map}
use Rattle.steal_pool.specs.declared.task.Task.{Task}
use Rattle.heap_base.specs.Counting.{total}
use Rattle.steal_pool.specs.Jobs.{Meaning, Does, AllFit}
use Rattle.steal_pool.specs.Lists.{Each}
use Rattle.steal_pool.specs.Runs.{Work, most_tasks, all_first, all_done, all_put}
use Rattle.parked_crew.specs.declared.task_share.JobShare.{JobShare}
use Rattle.parked_crew.specs.Shares.{shared_in, left_in}

module _ {S J G : Type 0} where
  -- what all are to do in the round
  abbrev pub to_do : List (JobShare S J G) → List Task
  to_do ps = flat_map (λ (p : JobShare S J G). p.list.items) ps

  -- what all left of what they put
  abbrev pub all_left : List (JobShare S J G) → List Task
  all_left ps = flat_map left_in ps

  abbrev pub jobs_in : List (JobShare S J G) → List J
  jobs_in ps = map (λ (p : JobShare S J G). p.job) ps

  module _ (M : Meaning J S) (s : S) where
    -- a worker's share at the beginning of a run with this job and this list
    pub record IsSeatOf (j : J) (f : List Task) (p : JobShare S J G) : Type 0 where
      pub job : p.job ≡ j
      pub list : p.list.items ≡ f
      pub none_put : p.out.tasks ≡ []
      pub none_done : p.done ≡ 0
      pub spare : M.room j ≤ p.out.room
      pub shared : shared_in p ≡ s

    -- the most tasks that may still be done in the run
    abbrev pub most_left : List (JobShare S J G) → ℕ
    most_left ps = total (λ (p : JobShare S J G). length p.list.items) ps + total (λ (p : JobShare S J G). M.room p.job) ps

    -- Of a job at the beginning of the run, what it did and put so far, and its share at the beginning of a round. `most` is what
    -- all may still do, and `whole` is what all might have done at the beginning.
    pub record HasGone (F : List Task) (whole most : ℕ) (j : J) (w : Work) (p : JobShare S J G) : Type 0 where
      pub does : Does (M.works s) j w.done (record { job = p.job; put = w.put })
      pub done_fit : AllFit F w.done
      pub list_fit : AllFit F p.list.items
      pub ready : M.ready p.job s
      pub same_fit : M.fit p.job s ≡ F
      pub none_put : p.out.tasks ≡ []
      pub none_done : p.done ≡ 0
      pub spare : M.room p.job ≤ p.out.room
      pub turns : most ≤ M.turns p.job
      pub spent : M.turns j + most ≤ M.turns p.job + whole
      pub shared : shared_in p ≡ s

    -- The run that began with the jobs js and the lists fs has come so far, at the beginning of a round.
    pub record Progress (F : List Task) (fs : List (List Task)) (js : List J) (ps : List (JobShare S J G)) : Type 0 where
      pub work : List Work
      pub each : Each (HasGone F (most_tasks M js fs) (most_left ps)) js work ps
      pub as_often : (h : Task → ℕ) → total h (all_done work) + total h (to_do ps) ≡ total h (all_first fs) + total h (all_put work)
