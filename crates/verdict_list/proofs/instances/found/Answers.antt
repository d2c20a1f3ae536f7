use Rattle.std.proofs.Common.{ap, length, arith}
use Rattle.graph_meaning.specs.Heap.{Table}
use Rattle.verdict_list.specs.Kinds.{name_of}
use Rattle.verdict_list.proofs.Counting.{named_at, instances-few}
use Rattle.verdict_list.proofs.instances.found.Goals as goal

pub overflow_cast-result : goal.overflow_cast-result
overflow_cast-result g c =
    let (h, r, are) = c.requires.counts in
    let p = c.args.counted.now.table.now in
    let named = are.counts.instances c.args.kind (name_of p c.args.kind) (named_at p c.args.kind c.requires.kind) in
    omega (arith, c.instances.ensures, named, instances-few h (name_of p c.args.kind), ap (λ (t : Table). length t.objects) are.stand.table, c.cells-cells.ensures.sound.limits.objects, c.cells-cells.ensures.sound.limits.possible.objects)
