use Rattle.std.proofs.Common.{◌≡◌, ◌++◌, length}
use Rattle.std.specs.Vec.Iter.{into_iter_items, into_iter_len}
use Rattle.parked_crew.specs.Progress.{jobs_in}
use Rattle.parked_crew.proofs.seating.unseat_all.Given as goal

abbrev pub invariant-loop-share : goal.invariant-loop-share
invariant-loop-share g l = record {
  all : l.yielded ++ into_iter_items l.share-iterator ≡ into_iter_items l.initial.share-iterator;
  left : into_iter_len l.share-iterator ≡ length (into_iter_items l.share-iterator);
  made : l.jobs.items ≡ jobs_in l.yielded;
}
