use Rattle.std.proofs.Common.{◌≡◌, ◌+◌, ◌<◌, ◌∙◌, length, get_or, arith}
use Rattle.std.proofs.lemmas.List.{get_or_default}
use Rattle.object_table.specs.Blocks.{all_entries, NoneEmpty}
use Rattle.object_table.proofs.Parted.{merge_is, unmerge_is}
use Rattle.object_table.proofs.blocks.merge_with_next.Goals as goal
use Rattle.object_table.proofs.blocks.merge_with_next.Goals.{After-append, After-remove}

module _ (c : After-append) where
  -- there is a next block
  within : c.args.at + 1 < length c.args.blocks.now.items
  within = omega (arith, c.args.blocks.now.ok.0, c.len.ensures, c.len-else-len-le1.ensures)

  -- and that one was taken out
  taken : c.replace-next.result ≡ get_or c.args.blocks.now.items (c.args.at + 1) c.replace-next.result
  taken = c.replace-next.ensures.value ∙ c.index_mut.ensures.value ∙ get_or_default c.args.blocks.now.items (c.args.at + 1) c.index_mut.result.now c.replace-next.result within

module _ (c : After-remove) where
  merged : c.args.at + 1 < length c.args.blocks.now.items →
      c.replace-next.result ≡ get_or c.args.blocks.now.items (c.args.at + 1) c.replace-next.result →
      (all_entries c.remove.new.self.items ≡ all_entries c.args.blocks.now.items) × NoneEmpty c.remove.new.self.items
  merged h is_next =
      rw c.remove.ensures.items
      (merge_is c.args.blocks.now.items c.args.at c.index_mut-this.result.now c.replace-next.result c.replace-next.new.dest c.append.new.self h
      c.requires.some is_next c.index_mut-this.ensures.value c.in-Ok.ensures.appended)

pub returns-in-Ok-clause-same : goal.returns-in-Ok-clause-same
returns-in-Ok-clause-same c =
    let at = goal.at.returns-in-Ok-clause-same c in
    (merged at.After-remove (within at.After-append) (taken at.After-append)).0

pub returns-in-Ok-clause-some : goal.returns-in-Ok-clause-some
returns-in-Ok-clause-some c =
    let at = goal.at.returns-in-Ok-clause-some c in
    (merged at.After-remove (within at.After-append) (taken at.After-append)).1

-- when out of memory, both stay
pub returns-in-Err-clause-same : goal.returns-in-Err-clause-same
returns-in-Err-clause-same c =
    let at = (goal.at.returns-in-Err-clause-same c).After-append in
    (unmerge_is c.args.blocks.now.items c.args.at c.index_mut-this.result.now c.replace-next.result c.replace-next.new.dest c.append.new.self
    (within at) c.requires.some (taken at) c.index_mut-this.ensures.value c.in-Err.next c.in-Err.ensures.err c.in-Err.ensures.given_back).0

pub returns-in-Err-clause-some : goal.returns-in-Err-clause-some
returns-in-Err-clause-some c =
    let at = (goal.at.returns-in-Err-clause-some c).After-append in
    (unmerge_is c.args.blocks.now.items c.args.at c.index_mut-this.result.now c.replace-next.result c.replace-next.new.dest c.append.new.self
    (within at) c.requires.some (taken at) c.index_mut-this.ensures.value c.in-Err.next c.in-Err.ensures.err c.in-Err.ensures.given_back).1
