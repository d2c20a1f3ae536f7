use Rattle.std.proofs.Common.{arith}
use Rattle.object_table.proofs.Shown.{root_more}
use Rattle.object_table.proofs.views.roots_view.Goals as goal

pub loop-root-preserved : goal.loop-root-preserved
loop-root-preserved c =
    root_more c.args.roots.now c.loop-root.views c.push.new.self c.loop-root.root c.number.result c.in_ok-name.name (omega arith)
    (rw (c.in_ok-name.ensures) c.name.ensures) c.number.ensures c.loop-root.invariant c.in_ok-push.ensures.ok
