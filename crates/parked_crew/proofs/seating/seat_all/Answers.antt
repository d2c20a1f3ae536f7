use Rattle.std.proofs.Common.{◌≡◌, ℕ, List, [], ◌∷◌, ◌++◌, length, take, get_or, sym, ap, subst, ◌∙◌, append_assoc, arith}
use Rattle.std.specs.Arc.{arc_value}
use Rattle.std.specs.Prelude.{vec_len}
use Rattle.std.specs.Vec.Iter.{into_iter_items}
use Rattle.std.proofs.lemmas.List.{take_more}
use Rattle.steal_pool.specs.declared.task.Task.{Task}
use Rattle.steal_pool.specs.Lists.{Each}
use Rattle.parked_crew.specs.Progress.{IsSeatOf}
use Rattle.parked_crew.proofs.Each.{each_more}
use Rattle.parked_crew.proofs.seating.seat_all.Goals as goal

pub loop-job-preserved : goal.loop-job-preserved
loop-job-preserved g c =
    let at = c.loop-job in
    let x = c.in-Some.job in
    let fs : List (List Task) = c.args.first.now.lists in
    let n : ℕ = vec_len at.shares in
    let steps : into_iter_items at.job-iterator ≡ x ∷ into_iter_items c.next.new.self = c.in-Some.ensures.steps.0 in
    let short = ap length steps in
    let pushed = c.in_ok-push.ensures in
    let len = pushed.len in
    let count = at.invariant.count in
    let R = IsSeatOf g.J.Job.meaning (arc_value c.args.seating.now.shared.now) in
    let index : c.of.result.now ≡ get_or fs n [] = c.of.ensures ∙ ap (λ (k : ℕ). get_or fs k []) c.len-number.ensures in
    let here : R x (get_or fs n []) c.in_ok-seat.field-0 = subst (λ (f : List Task). R x f c.in_ok-seat.field-0) index c.in_ok-seat.ensures in
    let taken : take (vec_len c.push.new.self) fs ≡ take n fs ++ get_or fs n [] ∷ [] = ap (λ (k : ℕ). take k fs) len ∙ take_more fs n [] (omega arith) in
    record {
      all = append_assoc at.yielded (x ∷ []) _ ∙ rw (← steps) at.invariant.all;
      left = (let was = at.invariant.left in let gone = c.in-Some.ensures.steps.1 in omega arith);
      made =
          subst (λ (z : List (List Task) × List _). Each R (at.yielded ++ x ∷ []) z.0 z.1) (λ i. (sym taken i, sym pushed.items i))
          (each_more R at.yielded (take n fs) at.shares.items x (get_or fs n []) c.in_ok-seat.field-0 at.invariant.made here);
      count = omega arith;
    }
