use Rattle.std.proofs.Common.{◌≤◌, ◌+◌, ◌++◌, ◌∷◌, [], List, ℕ, length, drop, map, sym, ap, ◌∙◌, arith}
use Rattle.std.proofs.lemmas.List.{drop_all}
use Rattle.heap_snapshot.specs.declared.line.Line.TheVariants.{End}
use Rattle.heap_snapshot.specs.Text.{line_of_root}
use Rattle.heap_snapshot.specs.Dangling.{dangling_from}
use Rattle.heap_snapshot.proofs.Danglings.{at_root, dangling-live, dangling-here, dangling-end}
use Rattle.heap_snapshot.proofs.dangling.dangling_in_roots.Goals as goal

pub returns-in-Err : goal.returns-in-Err
returns-in-Err c =
    c.loop-place.invariant.found ∙ at_root c.args.ids.now c.loop-place.next c.args.roots.now c.loop-place.place c.at.result.now c.at.ensures
    ∙ dangling-here c.args.ids.now c.loop-place.next (line_of_root c.at.result.now)
    (map line_of_root (drop (c.loop-place.place + 1) c.args.roots.now) ++ End ∷ []) (c.in-Err.found.line, c.in-Err.found.to) c.in-Err.ensures.passes

pub loop-place-preserved : goal.loop-place-preserved
loop-place-preserved c =
    let later = map line_of_root (drop (c.loop-place.place + 1) c.args.roots.now) ++ End ∷ [] in
    record {
      found = c.loop-place.invariant.found ∙ at_root c.args.ids.now c.loop-place.next c.args.roots.now c.loop-place.place c.at.result.now c.at.ensures
          ∙ dangling-live c.args.ids.now c.loop-place.next (line_of_root c.at.result.now) later c.in-Ok.ensures.passes
          ∙ ap (λ n. dangling_from c.args.ids.now n later) (sym c.in-Ok.ensures.next);
      bound = omega (arith, c.in-Ok.ensures.next);
    }

pub returns : goal.returns
returns c =
    let past : length c.args.roots.now ≤ c.loop-place.place = omega arith in
    c.loop-place.invariant.found
    ∙ ap (λ (xs : List (List ℕ × ℕ)). dangling_from c.args.ids.now c.loop-place.next (map line_of_root xs ++ End ∷ [])) (drop_all c.loop-place.place c.args.roots.now past)
    ∙ dangling-end c.args.ids.now c.loop-place.next
