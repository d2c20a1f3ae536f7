use Rattle.std.proofs.Common.{arith}
use Rattle.object_table.proofs.Numbering.{numbered_fits, numbered_more, numbered_all}
use Rattle.object_table.proofs.blocks.renumber.Goals as goal

pub overflow_add-start : goal.overflow_add-start
overflow_add-start c =
    let fits =
    numbered_fits c.args.blocks.now.items c.loop-at.blocks.items c.loop-at.at c.loop-at.start c.index_mut-block.result.now c.loop-at.invariant
    (omega (arith, c.args.blocks.now.ok.0)) c.index_mut-block.ensures.value in
    let long = rw c.move_to.ensures at c.len-start.ensures in
    omega (arith, fits, long, c.requires)

pub loop-at-preserved : goal.loop-at-preserved
loop-at-preserved c =
    rw (c.len-start.ensures, c.move_to.ensures)
    (numbered_more c.args.blocks.now.items c.loop-at.blocks.items c.loop-at.at c.loop-at.start c.index_mut-block.result.now c.loop-at.invariant
    (omega (arith, c.args.blocks.now.ok.0)) c.index_mut-block.ensures.value)

pub returns : goal.returns
returns c = numbered_all c.args.blocks.now.items c.loop-at.blocks.items c.loop-at.at c.loop-at.start c.loop-at.invariant (omega (arith, c.args.blocks.now.ok.0))
