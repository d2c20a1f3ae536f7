use Rattle.std.proofs.Common.{◌≡◌, ◌++◌, length}
use Rattle.std.specs.Vec.Iter.{into_iter_items, into_iter_len}
use Rattle.resident_crew.proofs.phases.wrap.Given as goal

abbrev pub invariant-loop-scan : goal.invariant-loop-scan
invariant-loop-scan l = record {
  all : l.yielded ++ into_iter_items l.scan-iterator ≡ into_iter_items l.initial.scan-iterator;
  left : into_iter_len l.scan-iterator ≡ length (into_iter_items l.scan-iterator);
  made : l.wrapped.items ≡ l.yielded;
}
