use Rattle.object_table.proofs.Parted.{IsHolder, holder, entry_is}
use Rattle.object_table.proofs.blocks.Blocks.at.Goals as goal
use Rattle.object_table.proofs.blocks.Blocks.at.Goals.{After-start}

module _ (c : After-start) where
  block : IsHolder c.self.inside.blocks.items c.block_of.result c.args.place c.start.result c.index-block.result.now
  block = holder _ _ _ _ _ c.self.invariant (rw c.deref.ensures.value at c.block_of.ensures) c.index-block.ensures c.start.ensures

pub overflow_sub-place : goal.overflow_sub-place
overflow_sub-place c = (block (goal.at.overflow_sub-place c).After-start).begins

pub at-requires : goal.at-requires
at-requires c = (block (goal.at.at-requires c).After-start).ends (rw c.self.view_is c.requires)

pub returns : goal.returns
returns c =
    let b = block (goal.at.returns c).After-start in
    rw (← c.self.view_is) (entry_is _ _ _ _ _ _ b.parted b.start b.begins (b.ends (rw c.self.view_is c.requires)) c.at.ensures)
