use Rattle.std.proofs.Common.{◌≡◌, length}
use Rattle.std.specs.Prelude.{vec_capacity, vec_len}
use Rattle.heap_marking.proofs.gathering.take_passes.Given as goal
use Rattle.scan_job.specs.States.{passes_of}

abbrev pub invariant-loop-job : goal.invariant-loop-job
invariant-loop-job l = record {
  passes : l.passes.items ≡ passes_of l.yielded;
  count : vec_len l.passes ≡ length l.yielded;
  room : vec_capacity l.passes ≡ vec_capacity l.fn.passes;
}
