use Rattle.std.proofs.Common.{◌≡◌, ◌++◌, length}
use Rattle.std.specs.Vec.Iter.{into_iter_items, into_iter_len}
use Rattle.resident_crew.proofs.phases.unwrap.Given as goal

abbrev pub invariant-loop-job : goal.invariant-loop-job
invariant-loop-job l = record {
  all : l.yielded ++ into_iter_items l.job-iterator ≡ into_iter_items l.initial.job-iterator;
  left : into_iter_len l.job-iterator ≡ length (into_iter_items l.job-iterator);
  made : l.unwrapped.items ≡ l.yielded;
}
