use Rattle.std.proofs.Common.{◌≡◌, ◌≤◌, ◌+◌, ◌-◌, length, vec_len}
use Rattle.heap_base.specs.declared.limits.TheConstants.{MOST_THREADS}
use Rattle.region_log.specs.Regions.{unused_thread, for_each_thread}
use Rattle.region_log.proofs.log.make_place.Given as goal

-- places of unused threads alone were put
abbrev pub invariant-loop-thread : goal.invariant-loop-thread
invariant-loop-thread l = record {
  same : for_each_thread unused_thread l.threads.items ≡ for_each_thread unused_thread l.fn.threads.items;
  few : length l.threads.items ≤ MOST_THREADS;
}

abbrev pub decreases-loop-thread : goal.decreases-loop-thread
decreases-loop-thread l = l.fn.thread + 1 - vec_len l.threads
