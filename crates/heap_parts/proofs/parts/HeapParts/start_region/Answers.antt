use Rattle.std.proofs.Common.{ap}
use Rattle.std.proofs.lemmas.Result.{on_ok_weaker}
use Rattle.region_log.specs.Regions.{RegionTable}
use Rattle.heap_parts.proofs.Operations.{steps-start_region}
use Rattle.heap_parts.proofs.Stepping.{parts_in}
use Rattle.heap_parts.proofs.parts.HeapParts.start_region.Goals as goal

pub invariant_of-self : goal.invariant_of-self
invariant_of-self c =
    let s = parts_in c.self.inside in
    (steps-start_region s c.self.invariant c.start.new.self c.start.result c.args.thread c.start.ensures.refused
    (on_ok_weaker c.start.result (λ e. (ap (λ (r : RegionTable). r.regions) e, ap (λ (r : RegionTable). r.unasserted) e)) c.start.ensures.started)
    c.start.ensures.err).1

pub returns : goal.returns
returns c =
    let s = parts_in c.self.inside in
    rw (← c.self.view_is)
    (steps-start_region s c.self.invariant c.start.new.self c.start.result c.args.thread c.start.ensures.refused
    (on_ok_weaker c.start.result (λ e. (ap (λ (r : RegionTable). r.regions) e, ap (λ (r : RegionTable). r.unasserted) e)) c.start.ensures.started)
    c.start.ensures.err).0
