use Rattle.std.proofs.Common.{length, sym, ap, subst, arith}
use Rattle.std.proofs.lemmas.Bool.{ltb-false}
use Rattle.region_log.specs.Regions.{IsRegionTable}
use Rattle.region_log.proofs.Tables.{none_open, IsRegionTable-table}
use Rattle.region_log.proofs.log.RegionLog.depth.Goals as goal

pub returns-in-Some-clause-regions : goal.returns-in-Some-clause-regions
returns-in-Some-clause-regions c = subst IsRegionTable c.self.view_is (IsRegionTable-table c.self.inside.threads.items c.self.invariant)

-- a thread past those that have a place has no open region
pub returns-in-None-clause-depth : goal.returns-in-None-clause-depth
returns-in-None-clause-depth c =
    let past = ltb-false _ _ (sym c.in-None.ensures.lookup.0) in
    sym (ap length (none_open c.self.inside.threads.items c.args.self.now c.self.view_is c.number.result c.args.thread c.number.ensures.value (omega (arith, past, ap length c.deref.ensures.value))))

pub returns-in-None-clause-regions : goal.returns-in-None-clause-regions
returns-in-None-clause-regions c = subst IsRegionTable c.self.view_is (IsRegionTable-table c.self.inside.threads.items c.self.invariant)
