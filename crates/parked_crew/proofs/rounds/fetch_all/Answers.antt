use Rattle.std.proofs.Common.{◌≡◌, List, [], ◌∷◌, ◌++◌, length, ap, subst, sym, ◌∙◌, append_assoc, arith}
use Rattle.std.specs.List.{AllZip}
use Rattle.std.specs.Vec.Iter.{into_iter_items}
use Rattle.parked_crew.proofs.Zips.{zip_more}
use Rattle.parked_crew.proofs.rounds.fetch_all.Goals as goal

pub loop-round-preserved : goal.loop-round-preserved
loop-round-preserved g c =
    let W = g.C.Share.worked in
    let at = c.loop-round in
    let x = c.in-Some.round in
    let steps : into_iter_items at.round-iterator ≡ x ∷ into_iter_items c.next.new.self = c.in-Some.ensures.steps.0 in
    let short = ap length steps in
    let pushed = c.push_reserved.ensures in
    let len = pushed.len in
    let cap = pushed.capacity in
    let count = at.invariant.count in
    let room = at.invariant.room in
    record {
      all = append_assoc at.yielded (x ∷ []) _ ∙ rw (← steps) at.invariant.all;
      left = (let was = at.invariant.left in let gone = c.in-Some.ensures.steps.1 in omega arith);
      made = subst (λ (ys : List _). AllZip W (at.yielded ++ x ∷ []) ys) (sym pushed.items) (zip_more W at.yielded _ x _ at.invariant.made c.fetch-share.ensures);
      count = omega arith;
      room = omega arith;
    }
