use Rattle.std.proofs.Common.{ℕ, ◌<◌, get_or}
use Rattle.scan_job.specs.States.{ScanState, IsUnspent}
use Rattle.scan_job.proofs.phase.none_is_spent.Given as goal

abbrev pub invariant-loop-job : goal.invariant-loop-job
invariant-loop-job l = (k : ℕ) (d : ScanState) → k < l.job-index → IsUnspent (get_or l.fn.jobs k d)
