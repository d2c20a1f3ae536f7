use Rattle.std.proofs.Common.{arith}
use Rattle.steal_pool.proofs.VictimLists.{all_untouched, tried_none, tried_some}
use Rattle.steal_pool.proofs.stealing.try_each.Goals as goal

pub loop-other-init : goal.loop-other-init
loop-other-init c = all_untouched c.args.others.now

pub loop-other-preserved : goal.loop-other-preserved
loop-other-preserved c =
    let same = c.loop-other.auto.others in
    let here = c.loop-other-test.true in
    tried_none c.args.others.now c.loop-other.others c.loop-other.other-index c.other-item.result c.steal.new.self c.loop-other.invariant (omega arith) c.in_default.ensures

pub returns-in-Some : goal.returns-in-Some
returns-in-Some c =
    let same = c.loop-other.auto.others in
    let here = c.loop-other-test.true in
    tried_some c.args.others.now c.loop-other.others c.loop-other.other-index c.other-item.result c.steal.new.self c.in-Some.task
    c.loop-other.invariant (omega arith) c.in-Some.ensures
