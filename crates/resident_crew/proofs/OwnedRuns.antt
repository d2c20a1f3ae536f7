-- A run of jobs over what they own is one over what is shared, whoever holds it.
use Rattle.std.proofs.Common.{◌≡◌, List, [], ◌∷◌, refl, subst}
use Rattle.std.specs.List.{All}
use Rattle.steal_pool.specs.declared.task.Task.{Task}
use Rattle.steal_pool.specs.Jobs.{AllFit, Meaning}
use Rattle.steal_pool.specs.Runs.{Run, Work, AreReady, TurnsLast, fit_tasks, most_tasks}
use Rattle.scan_job.specs.Jobs.{meaning_over, shared_meaning}
use Rattle.scan_job.specs.Phases.{HasRunJobs}
use Rattle.scan_job.specs.States.{ScanState}
use Rattle.resident_crew.specs.Scans.{shared_by_scan}
use Rattle.resident_crew.specs.declared.scan.ResidentScan.{ResidentScan}

abbrev owned_meaning : Meaning ScanState ResidentScan
owned_meaning = meaning_over shared_by_scan

same-fit : (s : ResidentScan) (js : List ScanState) → fit_tasks owned_meaning s js ≡ fit_tasks shared_meaning (shared_by_scan s) js
same-fit s [] = refl
same-fit s (j ∷ js) = refl

pub has-run : (s : ResidentScan) (fs : List (List Task)) (js ks : List ScanState) → Run owned_meaning s (record { jobs = js; first = fs }) ks → AreReady owned_meaning s ks →
    TurnsLast owned_meaning (most_tasks owned_meaning js fs) js ks → HasRunJobs (shared_by_scan s) (record { jobs = js; first = fs }) ks
has-run s fs js ks ran ready turns = record {
  ran = record {
    work = ran.work;
    each = ran.each;
    are_fit = subst (λ fit. All (λ (w : Work). AllFit fit w.done) ran.work) (same-fit s js) ran.are_fit;
    as_often = ran.as_often;
  };
  ready = ready;
  turns = turns;
}
