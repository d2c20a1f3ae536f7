use Rattle.std.proofs.Common.{sym, ◌∙◌, arith}
use Rattle.std.proofs.lemmas.List.Filters.{FiltersInPlace-more_no, FiltersInPlace-more_set}
use Rattle.region_log.proofs.stack.move_live.Goals as goal
use Rattle.region_log.proofs.stack.move_live.Goals.{then-is_some, else-is_some}

pub loop-place-init : goal.loop-place-init
loop-place-init c = record { behind = c.requires.behind; filtered = λ all h. h }

pub loop-place-preserved : goal.loop-place-preserved
loop-place-preserved c =
    let before = c.loop-place.invariant in
    let live = sym c.cell_of.ensures.live ∙ sym c.is_some.ensures in
    elim c.if-is_some.branch [
      | then-is_some w ↦ rw (w.ids-is, w.end-is) (record {
        behind = omega arith;
        filtered = λ all h. FiltersInPlace-more_set (before.filtered all h) (omega arith) (live ∙ w.if-is_some.true) c.index-ids-place.is;
      })
      | else-is_some w ↦ rw (w.ids-is, w.end-is) (record {
        behind = omega arith;
        filtered = λ all h. FiltersInPlace-more_no (before.filtered all h) (omega arith) (live ∙ w.if-is_some.false) c.index-ids-place.is;
      })
    ]
