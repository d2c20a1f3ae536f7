use Rattle.std.proofs.Common.{length, ap, arith}
use Rattle.object_table.proofs.Named.{IsOrdered-cleared, cleared_count}
use Rattle.object_table.proofs.roots.Roots.clear_to.Goals as goal

pub invariant_of-self : goal.invariant_of-self
invariant_of-self c = rw (c.clear_to.ensures) (IsOrdered-cleared c.args.ids.now c.args.marked.now c.self.inside.blocks c.self.invariant)

pub overflow_sub-result : goal.overflow_sub-result
overflow_sub-result c =
    omega (arith, c.len-before.ensures.count, c.len.ensures.count, ap length c.self.view_is, ap length c.clear_to.ensures, cleared_count c.args.ids.now c.args.marked.now c.self.inside.blocks)

pub returns-clause-count : goal.returns-clause-count
returns-clause-count c =
    rw (← c.self.view_is)
    (omega (
      arith,
      c.len-before.ensures.count,
      c.len.ensures.count,
      ap length c.self.view_is,
      ap length c.clear_to.ensures,
      cleared_count c.args.ids.now c.args.marked.now c.self.inside.blocks,
    ))
