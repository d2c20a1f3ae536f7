use Rattle.std.proofs.Common.{sym, ap, subst}
use Rattle.region_log.specs.Regions.{RegionTable}
use Rattle.tests_heap.proofs.Noted.{AreUpTo, upto-none}
use Rattle.tests_heap.proofs.regions.Run.make.Goals as goal

pub invariant_of-result : goal.invariant_of-result
invariant_of-result c = record { below = subst (AreUpTo 0) (sym (ap (λ (r : RegionTable). r.regions) c.in_ok-log.ensures)) (upto-none 0) }
