use Rattle.std.proofs.Common.{ℕ, ◌-◌, sym, ◌∙◌, ap, arith}
use Rattle.object_table.specs.Residents.{is_flagged}
use Rattle.object_table.proofs.Tables.{place_cell, place_taken, place_slots}
use Rattle.object_table.proofs.Freed.{counted_kept, counted_freed, count_fits}
use Rattle.object_table.proofs.table.freed_slots.Goals as goal

-- what stands for an entry past the end
nowhere : ℕ × ℕ
nowhere = (0, 0)

pub at-requires : goal.at-requires
at-requires c = place_taken c.args.cells.now.cells c.args.ids.now (c.loop-place.place - 1) c.cell-cell.result (omega arith) c.cell-cell.ensures c.requires.taken

pub overflow_add-slots : goal.overflow_add-slots
overflow_add-slots c =
    let n =
    place_slots c.args.cells.now.cells c.args.ids.now (c.loop-place.place - 1) c.cell-cell.result (omega arith) c.cell-cell.ensures
    c.at.result.now c.at.ensures c.slots-slots.result c.slots-slots.ensures.count nowhere in
    let fits =
    count_fits c.args.kept.now c.args.cells.now.cells c.args.ids.now c.loop-place.place c.loop-place.slots c.slots-slots.result nowhere
    (omega arith) c.loop-place.invariant.within n c.loop-place.invariant.slots in
    omega (arith, fits, c.requires.few)

pub loop-place-preserved-then-not-is_flagged : goal.loop-place-preserved-then-not-is_flagged
loop-place-preserved-then-not-is_flagged c =
    let is = place_cell c.args.cells.now.cells c.args.ids.now (c.loop-place.place - 1) c.cell-cell.result (omega arith) c.cell-cell.ensures nowhere in
    let n =
    place_slots c.args.cells.now.cells c.args.ids.now (c.loop-place.place - 1) c.cell-cell.result (omega arith) c.cell-cell.ensures
    c.at.result.now c.at.ensures c.slots-slots.result c.slots-slots.ensures.count nowhere in
    let flag = ap (is_flagged c.args.kept.now) (sym is) ∙ sym c.is_flagged.ensures ∙ c.if-not-is_flagged.true in
    record {
      within = omega arith;
      slots =
          counted_freed c.args.kept.now c.args.cells.now.cells c.args.ids.now c.loop-place.place c.loop-place.slots c.slots-slots.result nowhere
          (omega arith) c.loop-place.invariant.within flag n c.loop-place.invariant.slots;
    }

pub loop-place-preserved : goal.loop-place-preserved
loop-place-preserved c =
    let is = place_cell c.args.cells.now.cells c.args.ids.now (c.loop-place.place - 1) c.cell-cell.result (omega arith) c.cell-cell.ensures nowhere in
    let flag = ap (is_flagged c.args.kept.now) (sym is) ∙ sym c.is_flagged.ensures ∙ c.if-not-is_flagged.false in
    record {
      within = omega arith;
      slots =
          counted_kept c.args.kept.now c.args.cells.now.cells c.args.ids.now c.loop-place.place c.loop-place.slots nowhere (omega arith)
          c.loop-place.invariant.within flag c.loop-place.invariant.slots;
    }
