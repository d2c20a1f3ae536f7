use Rattle.std.proofs.Common.{◌≡◌, ◌+◌, ◌-◌, length, refl, sym, ◌∙◌, ap, arith}
use Rattle.std.proofs.lemmas.List.{get_or_default}
use Rattle.std.proofs.lemmas.List.Edits.{length-remove}
use Rattle.object_table.proofs.Parted.{IsHolder, holder, take_is, take_run_is, none_empty, none_empty_set, none_empty_removed}
use Rattle.object_table.proofs.blocks.take.Goals as goal
use Rattle.object_table.proofs.blocks.take.Goals.{After-start-start}

module _ (c : After-start-start) where
  block : IsHolder c.args.blocks.now.items c.args.at c.args.place c.start-start.result c.index_mut-block.result.now
  block = holder _ _ _ _ _ c.requires.laid c.requires.run c.index_mut-block.ensures.value c.start-start.ensures

pub returns-then-len-eq1-clause-some : goal.returns-then-len-eq1-clause-some
returns-then-len-eq1-clause-some c = rw c.remove.ensures.items (none_empty_removed c.args.blocks.now.items c.args.at (none_empty 0 c.args.blocks.now.items c.requires.laid))

-- the block has this entry alone
pub returns-then-len-eq1-clause-taken : goal.returns-then-len-eq1-clause-taken
returns-then-len-eq1-clause-taken c =
    let b = holder _ _ c.args.place c.index.result.now.start _ c.requires.laid c.requires.run c.index.ensures refl in
    let one : length c.index.result.now.entries ≡ 1 = omega (arith, c.len.ensures, c.if-len-eq1.true) in
    rw c.remove.ensures.items
    (take_run_is _ _ _ _ _ b.parted one b.parted.start b.begins (b.ends c.requires.inside))

pub overflow_sub-place : goal.overflow_sub-place
overflow_sub-place c =
    let b = block (goal.at.overflow_sub-place c).After-start-start in
    b.begins

pub remove-requires-else-len-eq1 : goal.remove-requires-else-len-eq1
remove-requires-else-len-eq1 c =
    let b = block (goal.at.remove-requires-else-len-eq1 c).After-start-start in
    b.ends c.requires.inside

-- the block has others
pub returns-else-len-eq1-clause-some : goal.returns-else-len-eq1-clause-some
returns-else-len-eq1-clause-some c =
    let b = block (goal.at.returns-else-len-eq1-clause-some c).After-start-start in
    let h = b.ends c.requires.inside in
    let same =
    ap (λ r. length r.entries)
    (c.index.ensures ∙ get_or_default c.args.blocks.now.items c.args.at c.index.result.now c.index_mut-block.result.now c.requires.run.in_range
    ∙ sym c.index_mut-block.ensures.value) in
    let shorter = ap (λ r. length r.entries + 1) c.remove-else-len-eq1.ensures ∙ length-remove c.index_mut-block.result.now.entries (c.args.place - c.start-start.result) h in
    none_empty_set c.args.blocks.now.items c.args.at c.remove-else-len-eq1.new.self c.requires.laid (omega (arith, same, shorter, b.parted.some, c.len.ensures, c.if-len-eq1.false))

pub returns-else-len-eq1-clause-taken : goal.returns-else-len-eq1-clause-taken
returns-else-len-eq1-clause-taken c =
    let b = block (goal.at.returns-else-len-eq1-clause-taken c).After-start-start in
    let h = b.ends c.requires.inside in
    take_is c.args.blocks.now.items c.args.at c.args.place c.start-start.result c.index_mut-block.result.now c.remove-else-len-eq1.new.self b.parted
    (b.start ∙ b.parted.start) b.begins h
    (ap (λ r. r.entries) c.remove-else-len-eq1.ensures)
