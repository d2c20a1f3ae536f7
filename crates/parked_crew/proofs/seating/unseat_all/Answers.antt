use Rattle.std.proofs.Common.{◌≡◌, ◌++◌, [], ◌∷◌, append_assoc, arith, ap, sym, length, ◌∙◌}
use Rattle.std.specs.Vec.Iter.{into_iter_items}
use Rattle.std.proofs.lemmas.List.{map-append}
use Rattle.parked_crew.proofs.seating.unseat_all.Goals as goal

pub loop-share-preserved : goal.loop-share-preserved
loop-share-preserved g c =
    let at = c.loop-share in
    let x = c.in-Some.share in
    let steps : into_iter_items at.share-iterator ≡ x ∷ into_iter_items c.next.new.self = c.in-Some.ensures.steps.0 in
    let short = ap length steps in
    record {
      all = append_assoc at.yielded (x ∷ []) _ ∙ rw (← steps) at.invariant.all;
      left = (let was = at.invariant.left in let gone = c.in-Some.ensures.steps.1 in omega arith);
      made = c.in_ok-push.ensures.items ∙ (ap (λ js. js ++ x.job ∷ []) at.invariant.made ∙ sym (map-append (λ p. p.job) at.yielded (x ∷ [])));
    }
