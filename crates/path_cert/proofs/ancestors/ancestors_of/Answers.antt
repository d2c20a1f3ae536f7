use Rattle.std.proofs.Common.{◌<◌, length, get_or, sym, subst, ◌∙◌, arith}
use Rattle.std.proofs.lemmas.List.{length-set}
use Rattle.path_cert.specs.Ancestors.{AreAncestors}
use Rattle.path_cert.proofs.AncestorSteps.{ancestors-set}
use Rattle.path_cert.proofs.ancestors.ancestors_of.Goals as goal
use Rattle.path_cert.proofs.ancestors.ancestors_of.Goals.{then-cell-cells, else-cell-cells}

pub loop-cell-preserved : goal.loop-cell-preserved
loop-cell-preserved c =
    let arrivals = c.args.arrivals.now in
    let ancestors = c.loop-cell.ancestors.items in
    let cell = get_or c.args.order.now c.loop-cell.cell-index 0 in
    let was = c.loop-cell.invariant in
    let each = was.each in
    elim c.if-cell-cells.branch [
      | then-cell-cells w ↦
          let within : get_or c.args.order.now c.loop-cell.cell-index 0 < length c.loop-cell.ancestors.items = (let less = w.if-cell-cells.true in omega (arith, less, each)) in
          let one = w.ancestor_of.ensures (subst (AreAncestors arrivals) (sym w.as_slice.ensures.value) was.ancestors) in
          rw w.ancestors-is (record {
            each = length-set ancestors cell w.ancestor_of.result ∙ each;
            ancestors = ancestors-set arrivals ancestors cell w.ancestor_of.result within was.ancestors one;
          })
      | else-cell-cells w ↦ rw w.ancestors-is was
    ]
