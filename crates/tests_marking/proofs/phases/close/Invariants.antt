use Rattle.std.proofs.Common.{◌≡◌, ◌++◌, vec_len}
use Rattle.tests_marking.proofs.phases.close.Given as goal
use Rattle.scan_job.specs.States.{passes_of}

abbrev pub invariant-loop-job : goal.invariant-loop-job
invariant-loop-job l = passes_of l.jobs.items ++ l.passes.items ≡ passes_of l.fn.jobs.items

abbrev pub decreases-loop-job : goal.decreases-loop-job
decreases-loop-job l = vec_len l.jobs
