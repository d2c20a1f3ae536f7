use Rattle.std.proofs.Common.{◌≡◌, ◌+◌, ◌++◌, vec_len}
use Rattle.std.specs.List.{All}
use Rattle.header_rule.specs.Passes.{IsFresh, IsPassOf}
use Rattle.tests_marking.specs.NewJobs.{IsNewJob}
use Rattle.tests_marking.proofs.phases.start.Given as goal
use Rattle.scan_job.specs.States.{passes_of}

abbrev pub invariant-loop-pass : goal.invariant-loop-pass
invariant-loop-pass l = record {
  all : l.passes.items ++ passes_of l.jobs.items ≡ l.initial.passes.items;
  fresh : All IsFresh l.passes.items;
  passes : All (IsPassOf l.headers) l.passes.items;
  count : vec_len l.jobs + vec_len l.passes ≡ l.fn.workers;
  each : All (IsNewJob l.table l.headers) l.jobs.items;
}

abbrev pub decreases-loop-pass : goal.decreases-loop-pass
decreases-loop-pass l = vec_len l.passes
