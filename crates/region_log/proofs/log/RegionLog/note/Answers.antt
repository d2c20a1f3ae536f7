use Rattle.std.proofs.Common.{ap, ◌∙◌, sym, subst, arith}
use Rattle.region_log.specs.Regions.{ThreadRegions, AreRegions, IsAbove, thread_with_object}
use Rattle.region_log.proofs.Tables.{place_of_reserved, thread_changed, thread_in, thread-at, regions-at, reserved-at, AreThreads-set, AreRegions-at, AreRegions-note}
use Rattle.region_log.proofs.log.RegionLog.note.Goals as goal

pub index_mut-stack-requires : goal.index_mut-stack-requires
index_mut-stack-requires c =
    let ts = c.self.inside.threads in
    omega (arith, ts.ok.0, place_of_reserved ts.items c.args.self.now c.self.view_is c.number.result c.args.thread c.number.ensures.value c.requires.reserved)

pub note-requires : goal.note-requires
note-requires c =
    let ts = c.self.inside.threads.items in
    let here = place_of_reserved ts c.args.self.now c.self.view_is c.number.result c.args.thread c.number.ensures.value c.requires.reserved in
    let t : ThreadRegions = c.index_mut-stack.result.now in
    reserved-at ts c.args.self.now c.self.view_is c.number.result c.args.thread c.number.ensures.value t t here c.index_mut-stack.ensures.value ∙ c.requires.reserved

pub invariant_of-self : goal.invariant_of-self
invariant_of-self c =
    let ts = c.self.inside.threads.items in
    let here = place_of_reserved ts c.args.self.now c.self.view_is c.number.result c.args.thread c.number.ensures.value c.requires.reserved in
    let t : ThreadRegions = c.index_mut-stack.result.now in
    let before : AreRegions t.regions = subst (λ (u : ThreadRegions). AreRegions u.regions) (sym c.index_mut-stack.ensures.value) (AreRegions-at ts c.number.result t c.self.invariant here) in
    let above =
    subst (IsAbove c.args.id) (sym (regions-at ts c.args.self.now c.self.view_is c.number.result c.args.thread c.number.ensures.value t t here c.index_mut-stack.ensures.value)) c.requires.above in
    AreThreads-set ts c.number.result c.note.new.self c.self.invariant (subst (λ (u : ThreadRegions). AreRegions u.regions) (sym c.note.ensures) (AreRegions-note c.args.id t.regions before above))

pub returns : goal.returns
returns c =
    let ts = c.self.inside.threads.items in
    let old = c.args.self.now in
    let here = place_of_reserved ts old c.self.view_is c.number.result c.args.thread c.number.ensures.value c.requires.reserved in
    let t : ThreadRegions = c.index_mut-stack.result.now in
    let noted = λ (u : ThreadRegions). thread_with_object u c.args.id in
    let is_thread = thread-at ts old c.self.view_is c.number.result c.args.thread c.number.ensures.value t t here c.index_mut-stack.ensures.value in
    thread_changed ts old c.self.view_is c.number.result c.args.thread c.number.ensures.value c.note.new.self
    (noted (thread_in ts old c.self.view_is c.number.result c.args.thread c.number.ensures.value)) here (c.note.ensures ∙ ap noted is_thread)
