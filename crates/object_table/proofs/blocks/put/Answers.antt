use Rattle.std.proofs.Common.{◌≡◌, ◌-◌, length, set, ◌∙◌, ap, arith}
use Rattle.std.specs.List.{insert}
use Rattle.std.proofs.lemmas.List.Edits.{length-insert}
use Rattle.object_table.specs.Blocks.{all_entries}
use Rattle.object_table.proofs.Numbering.{all_entries-laid, is_laid}
use Rattle.object_table.proofs.Parted.{IsHolder, holder, put_is, none_empty_set}
use Rattle.object_table.proofs.blocks.put.Goals as goal
use Rattle.object_table.proofs.blocks.put.Goals.{After-start-start, In_ok-insert}

module _ (c : After-start-start) where
  block : IsHolder c.args.blocks.now.items c.block_of-at.result c.args.place c.start-start.result c.index_mut-block.result.now
  block = holder _ _ _ _ _ c.requires.laid (rw c.deref.ensures.value at c.block_of-at.ensures) c.index_mut-block.ensures.value c.start-start.ensures

pub overflow_sub-place : goal.overflow_sub-place
overflow_sub-place c = (block (goal.at.overflow_sub-place c).After-start-start).begins

pub insert-requires : goal.insert-requires
insert-requires c = (block (goal.at.insert-requires c).After-start-start).reaches

module _ (c : In_ok-insert) where
  inserted : IsHolder c.args.blocks.now.items c.block_of-at.result c.args.place c.start-start.result c.index_mut-block.result.now →
      all_entries (set c.args.blocks.now.items c.block_of-at.result c.insert.new.self) ≡ insert (all_entries c.args.blocks.now.items) c.args.place c.args.entry
  inserted b =
      put_is _ _ _ c.start-start.result c.index_mut-block.result.now _ _ b.parted (b.start ∙ b.parted.start) b.begins b.reaches c.in_ok-insert.ensures.inserted

pub renumber-requires : goal.renumber-requires
renumber-requires c =
    let at = goal.at.renumber-requires c in
    omega (
      arith,
      ap length (inserted at.In_ok-insert (block at.After-start-start)),
      length-insert (all_entries c.args.blocks.now.items) c.args.place c.args.entry c.requires.in_range,
      c.requires.room,
    )

pub returns-clause-laid : goal.returns-clause-laid
returns-clause-laid c =
    let b = block (goal.at.returns-clause-laid c).After-start-start in
    let longer = ap length c.in_ok-insert.ensures.inserted ∙ length-insert c.index_mut-block.result.now.entries (c.args.place - c.start-start.result) c.args.entry b.reaches in
    rw c.renumber.ensures (is_laid 0 _ (none_empty_set c.args.blocks.now.items c.block_of-at.result c.insert.new.self c.requires.laid (omega (arith, longer))))

pub returns-clause-put : goal.returns-clause-put
returns-clause-put c =
    let at = goal.at.returns-clause-put c in
    rw c.renumber.ensures
    (all_entries-laid 0 (set c.args.blocks.now.items c.block_of-at.result c.insert.new.self) ∙ inserted at.In_ok-insert (block at.After-start-start))
