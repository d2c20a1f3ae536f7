use Rattle.std.proofs.Common.{◌<◌, length, arith}
use Rattle.object_table.specs.Blocks.{IsLaid}
use Rattle.object_table.proofs.Parted.{parted, length_is, split_laid, split_same}
use Rattle.object_table.proofs.blocks.split.Goals as goal

pub split-requires-clause-small : goal.split-requires-clause-small
split-requires-clause-small c =
    let laid : IsLaid 0 c.reserve.new.self.items = rw c.reserve.ensures.items c.requires.laid in
    let p = parted c.reserve.new.self.items c.args.at c.index_mut-block.result.now laid (rw c.reserve.ensures.items c.requires.in_range) c.index_mut-block.ensures.value in
    omega (arith, p.start, length_is _ _ _ p, rw (← c.reserve.ensures.items) at c.requires.few)

pub returns-clause-laid : goal.returns-clause-laid
returns-clause-laid c =
    let laid : IsLaid 0 c.reserve.new.self.items = rw c.reserve.ensures.items c.requires.laid in
    let p = parted c.reserve.new.self.items c.args.at c.index_mut-block.result.now laid (rw c.reserve.ensures.items c.requires.in_range) c.index_mut-block.ensures.value in
    let long : c.args.kept < length c.index_mut-block.result.now.entries = rw (c.index_mut-block.ensures.value, c.reserve.ensures.items) (c.requires.long c.index_mut-block.result.now) in
    rw c.in_ok-insert.ensures.items (split_laid _ _ _ _ _ _ p c.requires.kept (omega arith) c.in_ok-tail.ensures.front c.in_ok-tail.ensures.tail)

pub returns-clause-same : goal.returns-clause-same
returns-clause-same c =
    let laid : IsLaid 0 c.reserve.new.self.items = rw c.reserve.ensures.items c.requires.laid in
    let p = parted c.reserve.new.self.items c.args.at c.index_mut-block.result.now laid (rw c.reserve.ensures.items c.requires.in_range) c.index_mut-block.ensures.value in
    rw (c.in_ok-insert.ensures.items, ← c.reserve.ensures.items) (split_same _ _ _ _ _ _ p c.in_ok-tail.ensures.front c.in_ok-tail.ensures.tail)
