use Rattle.std.proofs.Common.{◌<◌, ◌+◌, length, take, take_all, sym, ap, subst, ◌∙◌, arith}
use Rattle.std.specs.Option.{option_map}
use Rattle.object_paths.specs.Findings.{finding_in}
use Rattle.object_paths.specs.Prefixes.{FindsFirst}
use Rattle.object_paths.proofs.Listing.{by_roots, finds-same, nth_root, nth_root-is, nth_root-more}
use Rattle.object_paths.proofs.search.Search.take_roots.Goals as goal

pub loop-root-preserved : goal.loop-root-preserved
loop-root-preserved c =
    let p = c.args.table.now in
    let roots = c.args.table.now.table.roots in
    let n = c.loop-root.root in
    let cell = c.root_cell.result in
    let names = c.root_cell.ensures.cell in
    let within : c.loop-root.root < length c.args.table.now.table.roots = omega arith in
    let is = nth_root-is p n cell within names in
    let refers = ap (option_map (λ r. r.1)) is.0 in
    record {
      count = c.put.ensures.count ∙ c.loop-root.invariant.count;
      finds = λ asked begun.
          finds-same p asked _ (by_roots (take (n + 1) roots)) (finding_in c.put.new.self) (λ x. sym (nth_root-more p n cell within names x))
          (c.put.ensures.finds p (nth_root p n cell within names).1 c.requires.placed is.1 refers asked
          (by_roots (take n roots)) (c.loop-root.invariant.finds asked begun));
    }

pub returns-clause-finds : goal.returns-clause-finds
returns-clause-finds c asked begun =
    let roots = c.args.table.now.table.roots in
    let all = take_all c.loop-root.root roots (omega arith) in
    subst (λ rs. FindsFirst c.args.table.now asked (by_roots rs) (finding_in c.loop-root.self)) all (c.loop-root.invariant.finds asked begun)
