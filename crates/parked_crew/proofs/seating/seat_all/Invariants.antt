use Rattle.std.proofs.Common.{◌≡◌, ◌++◌, ◌+◌, length, take}
use Rattle.std.specs.Prelude.{vec_len}
use Rattle.std.specs.Vec.Iter.{into_iter_items, into_iter_len}
use Rattle.std.specs.Arc.{arc_value}
use Rattle.steal_pool.specs.Lists.{Each}
use Rattle.parked_crew.specs.Progress.{IsSeatOf}
use Rattle.parked_crew.proofs.seating.seat_all.Given as goal

abbrev pub invariant-loop-job : goal.invariant-loop-job
invariant-loop-job g l = record {
  all : l.yielded ++ into_iter_items l.job-iterator ≡ into_iter_items l.initial.job-iterator;
  left : into_iter_len l.job-iterator ≡ length (into_iter_items l.job-iterator);
  made : Each (IsSeatOf g.J.Job.meaning (arc_value l.seating.shared.now)) l.yielded (take (vec_len l.shares) l.first.lists) l.shares.items;
  count : vec_len l.shares + length (into_iter_items l.job-iterator) ≡ length l.first.lists;
}
