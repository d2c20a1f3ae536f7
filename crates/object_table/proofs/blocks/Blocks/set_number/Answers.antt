use Rattle.std.proofs.Common.{◌≡◌, ◌<◌, ◌-◌, [], length, set, ◌∙◌, get_or, ℕ, List}
use Rattle.std.proofs.lemmas.Option.{slice_get-get_or}
use Rattle.object_table.proofs.Parted.{IsHolder, holder, entry_is, held_at, set_laid, set_is}
use Rattle.object_table.proofs.blocks.Blocks.set_number.Goals as goal
use Rattle.object_table.proofs.blocks.Blocks.set_number.Goals.{After-start-start, After-set_number}

module _ (c : After-start-start) where
  block : IsHolder c.self.inside.blocks.items c.block_of-at.result c.args.place c.start-start.result c.index_mut-block.result.now
  block = holder _ _ _ _ _ c.self.invariant (rw c.deref.ensures.value at c.block_of-at.ensures) c.index_mut-block.ensures.value c.start-start.ensures

  -- the place within the block
  inside : c.args.place - c.start-start.result < length c.index_mut-block.result.now.entries
  inside = block.ends (rw c.self.view_is c.requires)

pub overflow_sub-place : goal.overflow_sub-place
overflow_sub-place c = (block (goal.at.overflow_sub-place c).After-start-start).begins

pub set_number-requires : goal.set_number-requires
set_number-requires c = inside (goal.at.set_number-requires c).After-start-start

module _ (c : After-set_number) where
  abbrev entries : List (List ℕ × ℕ)
  entries = c.index_mut-block.result.now.entries

  abbrev at : ℕ
  at = c.args.place - c.start-start.result

  -- the name has another number
  held : at < length entries → c.set_number.new.self.entries ≡ set entries at ((get_or entries at ([], 0)).0, c.args.number)
  held within = held_at entries at ([], 0) (λ e. c.set_number.new.self.entries ≡ set entries at (e.0, c.args.number)) within c.set_number.ensures.set

pub invariant_of-self : goal.invariant_of-self
invariant_of-self c =
    let b = block (goal.at.invariant_of-self c).After-start-start in
    let h = held (goal.at.invariant_of-self c).After-set_number (inside (goal.at.invariant_of-self c).After-start-start) in
    set_laid _ _ _ c.index_mut-block.result.now c.set_number.new.self _ b.parted c.set_number.ensures.start h

pub returns : goal.returns
returns c =
    let b = block (goal.at.returns c).After-start-start in
    let within = inside (goal.at.returns c).After-start-start in
    let h = held (goal.at.returns c).After-set_number within in
    let entry =
    entry_is _ _ c.args.place c.start-start.result _ _ b.parted b.start b.begins within
    (slice_get-get_or c.index_mut-block.result.now.entries (c.args.place - c.start-start.result) ([], 0) within) in
    rw (← c.self.view_is, entry) (set_is _ _ _ _ _ _ _ b.parted (b.start ∙ b.parted.start) b.begins within h)
