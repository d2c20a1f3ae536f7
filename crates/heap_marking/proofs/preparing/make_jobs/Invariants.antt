use Rattle.std.proofs.Common.{◌≡◌}
use Rattle.std.specs.List.{All}
use Rattle.heap_marking.specs.TracedCells.{IsNewFor}
use Rattle.heap_marking.proofs.preparing.make_jobs.Given as goal
use Rattle.scan_job.specs.States.{passes_of}

abbrev pub invariant-loop-pass : goal.invariant-loop-pass
invariant-loop-pass l = record {
  passes : passes_of l.jobs.items ≡ l.yielded;
  are_new : All (IsNewFor l.cells l.kinds) l.jobs.items;
}
