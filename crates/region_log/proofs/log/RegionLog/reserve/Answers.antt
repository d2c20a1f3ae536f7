use Rattle.std.proofs.Common.{◌<◌, length, true, ap, ◌∙◌, arith}
use Rattle.std.proofs.lemmas.Result.{on_ok_weaker}
use Rattle.region_log.specs.Regions.{ThreadRegions}
use Rattle.region_log.proofs.Tables.{stack_of, reservation_changed, reserved_then}
use Rattle.region_log.proofs.log.RegionLog.reserve.Goals as goal

pub returns-clause-done : goal.returns-clause-done
returns-clause-done c =
    let here : c.number.result < length c.make_place.new.threads.items = omega (arith, c.make_place.new.threads.ok.0, c.in_ok-make_place.ensures.place, c.number.ensures.value) in
    let s = stack_of c.make_place.new.threads.items c.self.inside.threads.items c.args.self.now c.number.result c.args.thread c.index_mut-stack.result.now
    c.in_ok-make_place.ensures.same c.self.view_is c.number.ensures.value here c.index_mut-stack.ensures.value in
    on_ok_weaker c.reserve.result
    (λ reserved. reservation_changed c.make_place.new.threads.items c.args.self.now s.is c.number.result c.args.thread s.at c.reserve.new.self true here
    (reserved ∙ ap (λ (u : ThreadRegions). let kept : ThreadRegions = record u { reserved = true } in kept) s.thread))
    c.reserve.ensures.ok

pub returns-clause-reserved : goal.returns-clause-reserved
returns-clause-reserved c =
    on_ok_weaker c.reserve.result
    (λ reserved. reserved_then c.make_place.new.threads.items c.number.result c.args.thread c.number.ensures.value
    (omega (arith, c.make_place.new.threads.ok.0, c.in_ok-make_place.ensures.place, c.number.ensures.value)) c.reserve.new.self
    (ap (λ (u : ThreadRegions). u.reserved) reserved))
    c.reserve.ensures.ok
