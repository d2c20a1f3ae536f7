use Rattle.std.proofs.Common.{arith, subst, sym, ◌∙◌}
use Rattle.std.specs.List.{All}
use Rattle.std.proofs.lemmas.List.Elements.{All-push}
use Rattle.crossbeam_deque.specs.Handles.{worker_deque}
use Rattle.steal_pool.specs.Loans.{IsThiefOf}
use Rattle.steal_pool.proofs.pool.make_place.Goals as goal

pub loop-preserved : goal.loop-preserved
loop-preserved g c =
    let k = c.loop.invariant in
    let P = IsThiefOf (worker_deque c.in_ok-owner.owner) in
    let a = k.len in
    let b = c.push_reserved.ensures.len in
    record {
      len = omega arith;
      space = c.push_reserved.ensures.capacity ∙ k.space;
      kin =
          subst (All P) (sym c.push_reserved.ensures.items)
          (All-push P c.loop.spare.items c.in_ok-stealer.field-0 k.kin (c.in_ok-stealer.ensures.0, c.in_ok-stealer.ensures.1 ∙ c.in_ok-owner.ensures.fifo));
    }
