use Rattle.std.proofs.Common.{length, sym, ap, arith}
use Rattle.std.proofs.lemmas.Bool.{ltb-false}
use Rattle.region_log.proofs.Tables.{none_open}
use Rattle.region_log.proofs.log.RegionLog.innermost_unasserted.Goals as goal

-- a thread past those that have a place has no open region
pub returns-in_err-stack : goal.returns-in_err-stack
returns-in_err-stack c =
    let past = ltb-false _ _ (sym c.in_err-stack.ensures.lookup.0) in
    let none = none_open c.self.inside.threads.items c.args.self.now c.self.view_is c.number.result c.args.thread c.number.ensures.value (omega (arith, past, ap length c.deref.ensures.value)) in
    rw c.from_residual.ensures none
