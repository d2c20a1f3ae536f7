use Rattle.std.proofs.Common.{◌+◌, ◌≤◌, None, arith}
use Rattle.heap_base.specs.declared.limits.TheConstants.{MOST_SLOTS}
use Rattle.object_table.specs.declared.cell.Cell.TheVariants.{Empty}
use Rattle.object_table.specs.Chains.{with_slots_cleared, holders_at}
use Rattle.object_table.proofs.Housing.{put_alone}
use Rattle.object_table.proofs.Passes.{passed_long, fits_if, more_if, passed_all}
use Rattle.object_table.proofs.cells.clear_slots.Goals as goal

pub clear_to-cleared-requires : goal.clear_to-cleared-requires
clear_to-cleared-requires c =
    omega (
      arith,
      c.len-cell-end.ensures,
      passed_long (with_slots_cleared c.args.marked.now) (holders_at c.args.marked.now) c.args.pages.now.cells c.loop-cell.pages.cells
          c.loop-cell.cell c.loop-cell.cleared c.loop-cell.invariant (omega (arith, c.len-cell-end.ensures)),
    )

pub overflow_add-cleared : goal.overflow_add-cleared
overflow_add-cleared c =
    let fits : c.loop-cell.cleared + c.clear_to-cleared.result ≤ MOST_SLOTS =
    fits_if (with_slots_cleared c.args.marked.now) (holders_at c.args.marked.now) c.args.pages.now.cells c.loop-cell.pages.cells
    c.loop-cell.cell c.loop-cell.cleared c.loop-cell.invariant (omega (arith, c.len-cell-end.ensures)) (Empty None) c.clear_to-cleared.result
    MOST_SLOTS c.clear_to-cleared.ensures.count c.requires.few in
    omega arith

pub loop-cell-preserved : goal.loop-cell-preserved
loop-cell-preserved c =
    more_if (with_slots_cleared c.args.marked.now) (holders_at c.args.marked.now) c.args.pages.now.cells c.loop-cell.pages.cells c.loop-cell.cell
    c.loop-cell.cleared c.loop-cell.invariant (omega (arith, c.len-cell-end.ensures)) (Empty None) c.clear_to-cleared.new.self.cells
    c.clear_to-cleared.result
    (put_alone c.loop-cell.pages c.clear_to-cleared.new.self c.loop-cell.cell (with_slots_cleared c.args.marked.now)
    c.clear_to-cleared.ensures.cleared) c.clear_to-cleared.ensures.count

pub returns-clause-cleared : goal.returns-clause-cleared
returns-clause-cleared c =
    (passed_all (with_slots_cleared c.args.marked.now) (holders_at c.args.marked.now) c.args.pages.now.cells c.loop-cell.pages.cells c.loop-cell.cell
    c.loop-cell.cleared c.loop-cell.invariant (omega (arith, c.len-cell-end.ensures))).0

pub returns-clause-count : goal.returns-clause-count
returns-clause-count c =
    (passed_all (with_slots_cleared c.args.marked.now) (holders_at c.args.marked.now) c.args.pages.now.cells c.loop-cell.pages.cells c.loop-cell.cell
    c.loop-cell.cleared c.loop-cell.invariant (omega (arith, c.len-cell-end.ensures))).1
