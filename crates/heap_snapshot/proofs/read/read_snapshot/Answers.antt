use Rattle.std.proofs.Common.{◌≤◌, length, sym, arith, length-take-le}
use Rattle.heap_snapshot.proofs.read.read_snapshot.Goals as goal

pub slice_bounds-line_behind-end : goal.slice_bounds-line_behind-end
slice_bounds-line_behind-end c = let more : 268435456 ≤ length c.args.bytes.now = omega arith in sym (length-take-le 268435456 c.args.bytes.now more)

pub line_behind-requires : goal.line_behind-requires
line_behind-requires c =
    let more : 268435456 ≤ length c.args.bytes.now = omega arith in omega (arith, length-take-le 268435456 c.args.bytes.now more)
