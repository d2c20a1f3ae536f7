use Rattle.std.proofs.Common.{◌≡◌}
use Rattle.graph_meaning.specs.Heap.{is_live}
use Rattle.region_log.proofs.Fronts.{map_first}
use Rattle.region_log.specs.Regions.{thread_with_ids}
use Rattle.region_log.proofs.log.RegionLog.keep.Given as goal

-- the threads that were passed have live ids alone in their regions
abbrev pub invariant-loop-stack : goal.invariant-loop-stack
invariant-loop-stack l = l.stack-items ≡ map_first (thread_with_ids (is_live l.table.table)) l.stack-index l.initial.stack-items
