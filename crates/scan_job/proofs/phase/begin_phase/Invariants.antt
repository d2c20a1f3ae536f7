use Rattle.std.proofs.Common.{◌≡◌, ℕ, ◌<◌, ◌≤◌, get_or, length}
use Rattle.scan_job.specs.Phases.{starting_in}
use Rattle.scan_job.specs.States.{ScanState}
use Rattle.scan_job.proofs.phase.begin_phase.Given as goal

abbrev pub invariant-loop-job : goal.invariant-loop-job
invariant-loop-job l = record {
  done : (k : ℕ) (d : ScanState) → k < l.job-index → get_or l.job-items k d ≡ starting_in l.mode (get_or l.fn.jobs.items k d);
  rest : (k : ℕ) (d : ScanState) → l.job-index ≤ k → get_or l.job-items k d ≡ get_or l.fn.jobs.items k d;
  same : length l.job-items ≡ length l.fn.jobs.items;
}
