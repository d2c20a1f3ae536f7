use Rattle.std.proofs.Common.{◌-◌, take, length, sym, ◌∙◌, ap, arith}
use Rattle.std.proofs.lemmas.List.{length-take-le}
use Rattle.object_table.proofs.Housing.{front_none, front_more}
use Rattle.object_table.proofs.cells.drop_last.Goals as goal

pub loop-cell-init : goal.loop-cell-init
loop-cell-init c = record {
  count = sym c.len-cell.ensures;
  front = front_none c.args.kept.now c.args.pages.now.cells;
}

pub loop-cell-preserved : goal.loop-cell-preserved
loop-cell-preserved c =
    let before = ap (λ k. take (k - 1) c.loop-cell.pages.cells) c.loop-cell.invariant.count in
    let popped = c.pop.ensures ∙ before in
    record {
      count = ap length popped ∙ length-take-le (c.loop-cell.cell - 1) c.loop-cell.pages.cells (omega (arith, c.loop-cell.invariant.count));
      front =
          front_more c.args.kept.now c.args.pages.now.cells c.loop-cell.pages.cells c.pop.new.self.cells (c.loop-cell.cell - 1)
          c.loop-cell.invariant.front (omega (arith, c.loop-cell.invariant.count, c.loop-cell-test.true)) popped
          (sym c.stays.ensures ∙ c.if-stays.false);
    }
