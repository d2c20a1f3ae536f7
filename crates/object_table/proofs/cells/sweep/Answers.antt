use Rattle.std.proofs.Common.{◌-◌, arith}
use Rattle.object_table.specs.Chains.{cell_after}
use Rattle.object_table.specs.Residents.{is_flagged}
use Rattle.object_table.proofs.Housing.{put_alone, swept_within, swept_none, swept_more, swept_all}
use Rattle.object_table.proofs.StrongSlots.{strong-not_swept}
use Rattle.object_table.proofs.cells.sweep.Goals as goal

pub loop-cell-init : goal.loop-cell-init
loop-cell-init c = swept_none c.args.kept.now c.args.pages.now.cells c.len-cell.result c.len-cell.ensures

pub sweep_cell-first-requires-clause-strong : goal.sweep_cell-first-requires-clause-strong
sweep_cell-first-requires-clause-strong c =
    strong-not_swept c.args.kept.now c.args.pages.now.cells c.loop-cell.pages.cells c.loop-cell.cell c.loop-cell.first c.loop-cell.invariant c.loop-cell-test.true c.requires

pub sweep_cell-first-requires-clause-in_range : goal.sweep_cell-first-requires-clause-in_range
sweep_cell-first-requires-clause-in_range c = swept_within c.args.kept.now c.args.pages.now.cells c.loop-cell.pages.cells c.loop-cell.cell c.loop-cell.first c.loop-cell.invariant c.loop-cell-test.true

pub loop-cell-preserved : goal.loop-cell-preserved
loop-cell-preserved c =
    let change = cell_after (is_flagged c.args.kept.now (c.loop-cell.cell - 1)) c.args.kept.now c.loop-cell.first in
    swept_more c.args.kept.now c.args.pages.now.cells c.loop-cell.pages.cells c.sweep_cell-first.new.pages.cells c.loop-cell.cell c.loop-cell.first
    c.sweep_cell-first.result c.loop-cell.invariant c.loop-cell-test.true
    (put_alone c.loop-cell.pages c.sweep_cell-first.new.pages (c.loop-cell.cell - 1) change c.sweep_cell-first.ensures.put)
    c.sweep_cell-first.ensures.first

pub returns-clause-cells : goal.returns-clause-cells
returns-clause-cells c = (swept_all c.args.kept.now c.args.pages.now.cells c.loop-cell.pages.cells c.loop-cell.cell c.loop-cell.first c.loop-cell.invariant (omega arith)).0

pub returns-clause-first : goal.returns-clause-first
returns-clause-first c = (swept_all c.args.kept.now c.args.pages.now.cells c.loop-cell.pages.cells c.loop-cell.cell c.loop-cell.first c.loop-cell.invariant (omega arith)).1
