use Rattle.std.proofs.Common.{length, sym, ap, arith}
use Rattle.object_table.proofs.Parted.{last_is}
use Rattle.object_table.proofs.blocks.Blocks.len.Goals as goal

pub overflow_add-result : goal.overflow_add-result
overflow_add-result c =
    let all = last_is c.deref.result.now c.in-Some.block.now (rw c.deref.ensures.value c.self.invariant) (sym c.in-Some.ensures.value) in
    let same = ap length c.self.view_is in
    omega (arith, c.start.ensures, c.len.ensures, rw c.deref.ensures.value at all, same, c.requires)

pub returns-in-Some : goal.returns-in-Some
returns-in-Some c =
    let all = last_is c.deref.result.now c.in-Some.block.now (rw c.deref.ensures.value c.self.invariant) (sym c.in-Some.ensures.value) in
    let same = ap length c.self.view_is in
    omega (arith, c.start.ensures, c.len.ensures, rw c.deref.ensures.value at all, same)
