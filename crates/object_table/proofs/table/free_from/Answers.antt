use Rattle.std.proofs.Common.{ℕ, ◌-◌, length, set, None, sym, ◌∙◌, ap, arith}
use Rattle.std.proofs.lemmas.List.{length-set}
use Rattle.object_table.specs.Residents.{is_flagged}
use Rattle.object_table.proofs.Tables.{place_cell}
use Rattle.object_table.proofs.Freed.{full_now, slots_here, freed_kept, freed_more, counted_kept, counted_freed, count_fits}
use Rattle.object_table.proofs.table.free_from.Goals as goal

-- what stands for an entry past the end
nowhere : ℕ × ℕ
nowhere = (0, 0)

pub at-requires : goal.at-requires
at-requires c =
    let is = place_cell c.args.cells.now.cells c.args.ids.now (c.loop-place.place - 1) c.cell-cell.result (omega arith) c.cell-cell.ensures nowhere in
    full_now c.args.kept.now c.args.cells.now.cells c.args.ids.now c.args.first c.loop-place.place c.requires.stacked (omega arith)
    c.loop-place.invariant.within c.loop-place.cells.cells c.loop-place.invariant.freed nowhere c.cell-cell.result is c.cell-cell.result
    (omega arith)

pub free-requires : goal.free-requires
free-requires c =
    let is = place_cell c.args.cells.now.cells c.args.ids.now (c.loop-place.place - 1) c.cell-cell.result (omega arith) c.cell-cell.ensures nowhere in
    full_now c.args.kept.now c.args.cells.now.cells c.args.ids.now c.args.first c.loop-place.place c.requires.stacked (omega arith)
    c.loop-place.invariant.within c.loop-place.cells.cells c.loop-place.invariant.freed nowhere c.cell-cell.result is

pub overflow_add-slots : goal.overflow_add-slots
overflow_add-slots c =
    let is = place_cell c.args.cells.now.cells c.args.ids.now (c.loop-place.place - 1) c.cell-cell.result (omega arith) c.cell-cell.ensures nowhere in
    let n =
    slots_here c.args.kept.now c.args.cells.now.cells c.args.ids.now c.args.first c.loop-place.place c.requires.stacked (omega arith)
    c.loop-place.invariant.within c.loop-place.cells.cells c.loop-place.invariant.freed nowhere c.cell-cell.result c.slots-slots.result
    c.at.result.now is c.at.ensures c.slots-slots.ensures.count in
    let fits =
    count_fits c.args.kept.now c.args.cells.now.cells c.args.ids.now c.loop-place.place c.loop-place.slots c.slots-slots.result nowhere
    (omega arith) c.loop-place.invariant.within n c.loop-place.invariant.slots in
    omega (arith, fits, c.requires.few)

pub loop-place-preserved-then-not-is_flagged : goal.loop-place-preserved-then-not-is_flagged
loop-place-preserved-then-not-is_flagged c =
    let is = place_cell c.args.cells.now.cells c.args.ids.now (c.loop-place.place - 1) c.cell-cell.result (omega arith) c.cell-cell.ensures nowhere in
    let n =
    slots_here c.args.kept.now c.args.cells.now.cells c.args.ids.now c.args.first c.loop-place.place c.requires.stacked (omega arith)
    c.loop-place.invariant.within c.loop-place.cells.cells c.loop-place.invariant.freed nowhere c.cell-cell.result c.slots-slots.result
    c.at.result.now is c.at.ensures c.slots-slots.ensures.count in
    let flag = ap (is_flagged c.args.kept.now) (sym is) ∙ sym c.is_flagged.ensures ∙ c.if-not-is_flagged.true in
    record {
      from = omega arith;
      within = omega arith;
      count = ap (λ l. length l) c.free.ensures ∙ length-set c.loop-place.cells.cells c.cell-cell.result None ∙ c.loop-place.invariant.count;
      freed =
          freed_more c.args.kept.now c.args.cells.now.cells c.args.ids.now c.args.first c.loop-place.place c.requires.stacked (omega arith)
          c.loop-place.invariant.within c.loop-place.cells.cells c.loop-place.invariant.freed nowhere c.free.new.self.cells flag
          (c.free.ensures ∙ ap (λ cell. set c.loop-place.cells.cells cell None) is);
      slots =
          counted_freed c.args.kept.now c.args.cells.now.cells c.args.ids.now c.loop-place.place c.loop-place.slots c.slots-slots.result nowhere
          (omega arith) c.loop-place.invariant.within flag n c.loop-place.invariant.slots;
    }

pub loop-place-preserved : goal.loop-place-preserved
loop-place-preserved c =
    let is = place_cell c.args.cells.now.cells c.args.ids.now (c.loop-place.place - 1) c.cell-cell.result (omega arith) c.cell-cell.ensures nowhere in
    let flag = ap (is_flagged c.args.kept.now) (sym is) ∙ sym c.is_flagged.ensures ∙ c.if-not-is_flagged.false in
    record {
      from = omega arith;
      within = omega arith;
      count = c.loop-place.invariant.count;
      freed =
          freed_kept c.args.kept.now c.args.cells.now.cells c.args.ids.now c.args.first c.loop-place.place c.requires.stacked (omega arith)
          c.loop-place.invariant.within c.loop-place.cells.cells c.loop-place.invariant.freed nowhere flag;
      slots =
          counted_kept c.args.kept.now c.args.cells.now.cells c.args.ids.now c.loop-place.place c.loop-place.slots nowhere (omega arith)
          c.loop-place.invariant.within flag c.loop-place.invariant.slots;
    }
