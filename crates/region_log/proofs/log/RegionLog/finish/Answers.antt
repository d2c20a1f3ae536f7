use Rattle.std.proofs.Common.{◌<◌, length, drop, ap, ◌∙◌, sym, subst, arith}
use Rattle.region_log.specs.Regions.{ThreadRegions, AreRegions, AreNested, outer_without, thread_without_region}
use Rattle.graph_meaning.specs.Heap.{regions_of}
use Rattle.region_log.proofs.Tables.{place_of_open, regions_changed, thread-at, unasserted-at, AreThreads-set, AreRegions-at, AreRegions-end}
use Rattle.region_log.proofs.log.RegionLog.finish.Goals as goal
use Rattle.region_log.proofs.log.RegionLog.finish.Goals.{After-number-2}

module _ (c : After-number-2) where
  -- a region of the thread is open, so its stack has its place
  here : c.number-2.result < length c.self.inside.threads.items
  here =
      let some : 0 < length (regions_of c.args.self.now.regions c.args.thread) = omega (arith, c.depth.ensures.depth) in
      place_of_open c.self.inside.threads.items c.args.self.now c.self.view_is c.number-2.result c.args.thread c.number-2.ensures.value some

pub index_mut-stack-requires : goal.index_mut-stack-requires
index_mut-stack-requires c = omega (arith, c.self.inside.threads.ok.0, here (goal.at.index_mut-stack-requires c).After-number-2)

pub invariant_of-self : goal.invariant_of-self
invariant_of-self c =
    let ts = c.self.inside.threads.items in
    let before : AreRegions c.index_mut-stack.result.now.regions =
    subst (λ (t : ThreadRegions). AreRegions t.regions) (sym c.index_mut-stack.ensures.value)
    (AreRegions-at ts c.number-2.result c.index_mut-stack.result.now c.self.invariant (here (goal.at.invariant_of-self c).After-number-2)) in
    AreThreads-set ts c.number-2.result c.close.new.self c.self.invariant
    (subst (λ (t : ThreadRegions). AreRegions t.regions) (sym c.close.ensures.closed) (AreRegions-end c.index_mut-stack.result.now.regions before))

pub returns-clause-ended : goal.returns-clause-ended
returns-clause-ended c =
    let ts = c.self.inside.threads.items in
    let old = c.args.self.now in
    let t : ThreadRegions = c.index_mut-stack.result.now in
    let h = here (goal.at.returns-clause-ended c).After-number-2 in
    let is_thread = thread-at ts old c.self.view_is c.number-2.result c.args.thread c.number-2.ensures.value t t h c.index_mut-stack.ensures.value in
    regions_changed ts old c.self.view_is c.number-2.result c.args.thread c.number-2.ensures.value c.close.new.self
    (drop 1 (regions_of old.regions c.args.thread)) (outer_without (regions_of old.unasserted c.args.thread)) h
    (c.close.ensures.closed ∙ ap thread_without_region is_thread)

pub returns-clause-nested : goal.returns-clause-nested
returns-clause-nested c =
    let t : ThreadRegions = c.index_mut-stack.result.now in
    subst AreNested
    (unasserted-at c.self.inside.threads.items c.args.self.now c.self.view_is c.number-2.result c.args.thread c.number-2.ensures.value t t
    (here (goal.at.returns-clause-nested c).After-number-2) c.index_mut-stack.ensures.value)
    c.close.ensures.nested
