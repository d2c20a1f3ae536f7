use Rattle.std.proofs.Common.{◌<◌, length, ap, ◌∙◌, sym, subst, arith, List, ℕ}
use Rattle.std.proofs.lemmas.Result.{on_ok_weaker}
use Rattle.heap_base.specs.declared.limits.TheConstants.{MOST_REGIONS}
use Rattle.region_log.specs.Regions.{ThreadRegions, AreRegions, thread_with_region}
use Rattle.region_log.proofs.Tables.{IsStackOf, stack_of, AreThreads-same, AreThreads-set, AreRegions-at, AreRegions-start, thread_changed, thread_in, either_way}
use Rattle.region_log.proofs.log.RegionLog.open.Goals as goal
use Rattle.region_log.proofs.log.RegionLog.open.Goals.{After-index_mut-stack}

module _ (c : After-index_mut-stack) where
  stack : IsStackOf c.make_place.new.threads.items c.args.self.now c.number.result c.args.thread c.index_mut-stack.result.now
  stack =
      stack_of c.make_place.new.threads.items c.self.inside.threads.items c.args.self.now c.number.result c.args.thread c.index_mut-stack.result.now
      c.in_ok-make_place.ensures.same c.self.view_is c.number.ensures.value
      (omega (arith, c.make_place.new.threads.ok.0, c.in_ok-make_place.ensures.place, c.number.ensures.value)) c.index_mut-stack.ensures.value

pub returns-clause-opened : goal.returns-clause-opened
returns-clause-opened c =
    let s = stack (goal.at.returns-clause-opened c).After-index_mut-stack in
    on_ok_weaker c.open.result
    (λ done. thread_changed c.make_place.new.threads.items c.args.self.now s.is c.number.result c.args.thread s.at c.open.new.self
    (thread_with_region (thread_in c.make_place.new.threads.items c.args.self.now s.is c.number.result c.args.thread s.at)) s.here
    (done ∙ ap thread_with_region s.thread))
    c.open.ensures.ok

pub invariant_of-self-2 : goal.invariant_of-self-2
invariant_of-self-2 c =
    let ts = c.make_place.new.threads.items in
    let s = stack (goal.at.invariant_of-self-2 c).After-index_mut-stack in
    let place = c.in_ok-make_place.ensures in
    let threads = AreThreads-same ts c.self.inside.threads.items place.same place.few c.self.invariant in
    let t : ThreadRegions = c.index_mut-stack.result.now in
    let before : AreRegions t.regions =
    subst (λ (u : ThreadRegions). AreRegions u.regions) (sym c.index_mut-stack.ensures.value) (AreRegions-at ts c.number.result t threads s.here) in
    let few = subst (λ (rs : List (List ℕ)). length rs < MOST_REGIONS) (sym (ap (λ (u : ThreadRegions). u.regions) s.thread)) c.requires in
    AreThreads-set ts c.number.result c.open.new.self threads
    (either_way c.open.result c.open.ensures.ok c.open.ensures.err
    (λ opened. subst (λ (u : ThreadRegions). AreRegions u.regions) (sym opened) (AreRegions-start t.regions before few))
    (λ same. subst (λ (u : ThreadRegions). AreRegions u.regions) (sym same) before))
