use Rattle.std.proofs.Common.{refl, sym, arith, ◌∙◌}
use Rattle.std.proofs.lemmas.List.Filters.{FiltersInPlace-all, FiltersInPlace-more_no, FiltersInPlace-more_set}
use Rattle.object_table.specs.Residents.{is_flagged}
use Rattle.object_table.proofs.Freed.{filter_all}
use Rattle.object_table.proofs.ids.compact.Goals as goal
use Rattle.object_table.proofs.ids.compact.Goals.{then-is_flagged, else-is_flagged}

pub loop-place-init : goal.loop-place-init
loop-place-init c = record {
  front = sym (filter_all (λ e. is_flagged c.args.kept.now e.1) _ c.requires.earlier);
  rest = refl;
  behind = omega arith;
  within = c.requires.within;
  long = refl;
}

pub loop-place-preserved : goal.loop-place-preserved
loop-place-preserved c =
    elim c.if-is_flagged.branch [
      | then-is_flagged w ↦ rw (w.entries-is, w.end-is) (FiltersInPlace-more_set c.loop-place.invariant (omega arith) (sym c.is_flagged.ensures ∙ w.if-is_flagged.true) c.index-entries-place.is)
      | else-is_flagged w ↦ rw (w.entries-is, w.end-is) (FiltersInPlace-more_no c.loop-place.invariant (omega arith) (sym c.is_flagged.ensures ∙ w.if-is_flagged.false) c.index-entries-place.is)
    ]

pub returns : goal.returns
returns c = FiltersInPlace-all c.loop-place.invariant (omega arith)
