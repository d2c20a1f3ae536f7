use Rattle.std.proofs.Common.{◌<◌, ◌++◌, ◌∷◌, [], List, length, ap, ◌∙◌, arith}
use Rattle.std.proofs.lemmas.List.{length_push}
use Rattle.heap_base.specs.declared.limits.TheConstants.{MOST_THREADS}
use Rattle.region_log.specs.Regions.{ThreadRegions, unused_thread, for_each_thread}
use Rattle.region_log.proofs.Threads.{for_each_thread-push}
use Rattle.region_log.proofs.log.make_place.Goals as goal

pub loop-thread-preserved : goal.loop-thread-preserved
loop-thread-preserved c =
    let ts : List ThreadRegions = c.loop-thread.threads.items in
    let few : length ts < MOST_THREADS = omega (arith, c.loop-thread.threads.ok.0, c.len.ensures, c.number.ensures.value, c.number.ensures.below) in
    let items = c.in_ok-push.ensures.items ∙ ap (λ (t : ThreadRegions). ts ++ t ∷ []) c.make.ensures in
    record {
      same = ap (for_each_thread unused_thread) items ∙ (for_each_thread-push unused_thread ts few ∙ c.loop-thread.invariant.same);
      few = omega (arith, ap length items, length_push ts unused_thread);
    }
