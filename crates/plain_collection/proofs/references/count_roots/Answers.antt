use Rattle.std.proofs.Common.{◌<◌, ◌+◌, length, take, take_all, sym, ap, subst, ◌∙◌, arith}
use Rattle.std.proofs.lemmas.List.{length-set}
use Rattle.graph_meaning.specs.Assertions.{by_root}
use Rattle.object_table.proofs.ObjectsByCell.{held-within}
use Rattle.object_paths.proofs.Listing.{by_roots, nth_root, nth_root-is, nth_root-more}
use Rattle.plain_collection.specs.Counting.{AtMost, CountsLists}
use Rattle.verdict_list.proofs.Counting.{few_more}
use Rattle.plain_collection.proofs.Counts.{counted-more}
use Rattle.plain_collection.proofs.references.count_roots.Goals as goal

pub loop-root-preserved : goal.loop-root-preserved
loop-root-preserved c =
    let p = c.args.table.now in
    let roots = c.args.table.now.table.roots in
    let n = c.loop-root.root in
    let within : c.loop-root.root < length c.args.table.now.table.roots = omega arith in
    let cell = c.root_cell.result in
    let names = c.root_cell.ensures.cell in
    let root = nth_root p n cell within names in
    let held = (nth_root-is p n cell within names).1 in
    let more = nth_root-more p n cell within names in
    let was = c.loop-root.invariant in
    let counts = c.loop-root.counts.items in
    let inside : c.root_cell.result < length c.loop-root.counts.items = omega (arith, held-within p cell root.1 held, was.each, c.requires.each) in
    record {
      counts = λ begun.
          subst (CountsLists p (by_roots (take (n + 1) roots))) (sym c.count_one.ensures)
          (counted-more p (by_roots (take n roots)) (by_roots (take (n + 1) roots)) counts cell root.1 (by_root root.0) c.requires.placed held inside more (was.counts begun));
      each = ap length c.count_one.ensures ∙ length-set counts cell _ ∙ was.each;
      few = subst (AtMost (n + 1)) (sym c.count_one.ensures) (few_more counts cell n inside was.few);
    }

pub count_one-requires-clause-cell : goal.count_one-requires-clause-cell
count_one-requires-clause-cell c =
    let p = c.args.table.now in
    let within : c.loop-root.root < length c.args.table.now.table.roots = omega arith in
    let held = (nth_root-is p c.loop-root.root c.root_cell.result within c.root_cell.ensures.cell).1 in
    omega (arith, held-within p c.root_cell.result _ held, c.loop-root.invariant.each, c.requires.each)

pub returns-clause-counts : goal.returns-clause-counts
returns-clause-counts c begun =
    let roots = c.args.table.now.table.roots in
    let all = take_all c.loop-root.root roots (omega arith) in
    subst (λ rs. CountsLists c.args.table.now (by_roots rs) c.loop-root.counts.items) all (c.loop-root.invariant.counts begun)
