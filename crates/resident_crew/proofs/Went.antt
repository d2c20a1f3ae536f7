-- One phase of a trace after another, whoever runs the jobs.
use Rattle.std.proofs.Common.{◌≡◌, ◌+◌, ◌*◌, List, length, ap, ◌∙◌, subst, arith}
use Rattle.steal_pool.specs.declared.task.Task.{Task}
use Rattle.steal_pool.specs.FirstLists.{FirstLists}
use Rattle.scan_job.specs.Gains.{GainsOf}
use Rattle.scan_job.specs.Jobs.{graph_in}
use Rattle.scan_job.specs.Phases.{CanBeginPhase, CanRunJobs, HasBegun, HasRunJobs, IsDone, Phase, cells_in, task_lists}
use Rattle.scan_job.specs.Shared.{SharedHeap}
use Rattle.scan_job.specs.States.{ScanState, NoneSpent}
use Rattle.scan_job.proofs.Dealing.{length-dealt}
use Rattle.heap_marking.proofs.NextPhase.{next-begins, same-many}

module _ (phase : Phase) {l s : SharedHeap} (same : l ≡ s) where
  -- The jobs bs and their first tasks, with which this phase began over what is lent.
  pub record Begun (js bs : List ScanState) (first then : FirstLists) : Type 0 where
    pub firsts : List Task
    pub begun : HasBegun l phase js (record { jobs = bs; first = then.lists })
    pub lists : then.lists ≡ task_lists (length js) firsts
    pub first_room : then.room ≡ first.room

  module _ {js bs : List ScanState} {first then : FirstLists} (b : Begun js bs first then) where
    pub over-shared : HasBegun s phase js (record { jobs = bs; first = then.lists })
    over-shared = subst (λ x. HasBegun x phase js (record { jobs = bs; first = then.lists })) same b.begun

    -- it can be run
    pub can-run : CanRunJobs s (record { jobs = bs; first = then.lists }) (2 * cells_in s + 1)
    can-run = over-shared.can_run (2 * cells_in s + 1) (omega arith)

    module _ {ks : List ScanState} (ran : HasRunJobs s (record { jobs = bs; first = then.lists }) ks) (left : NoneSpent ks) where
      -- then the phase is done
      pub is-done : IsDone s phase js ks
      is-done = over-shared.done ks ran left

      pub gained : GainsOf (graph_in s) (phase.gains (graph_in s)) js ks
      gained = is-done.gains

      pub as-many : length ks ≡ length js
      as-many = same-many s phase js ks is-done

      -- and the next can begin
      pub goes-on : CanBeginPhase s js first → CanBeginPhase s ks then
      goes-on can =
          next-begins s phase js ks first then can is-done (ap length b.lists ∙ length-dealt (length js) b.firsts) b.first_room
