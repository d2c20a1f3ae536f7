use Rattle.scan_job.specs.Jobs.{IsReady}
use Rattle.scan_job.specs.States.{IsSameJob}
use Rattle.scan_job.proofs.job.ScanJob.prefetch_targets.Given as goal

abbrev pub invariant-loop-slot : goal.invariant-loop-slot
invariant-loop-slot l = record {
  ready : IsReady l.self l.shared;
  same : IsSameJob l.fn.self l.self;
}
