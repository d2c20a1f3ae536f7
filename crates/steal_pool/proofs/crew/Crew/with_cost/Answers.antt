use Rattle.std.proofs.Common.{arith, ◌≡◌, subst, sym, ◌∙◌, vec_len}
use Rattle.std.specs.List.{All}
use Rattle.std.proofs.lemmas.List.Elements.{All-push}
use Rattle.crossbeam_utils.specs.Padded.{padded_value}
use Rattle.steal_pool.specs.Rests.{IsAtRest}
use Rattle.steal_pool.proofs.crew.Crew.with_cost.Goals as goal

pub loop-preserved : goal.loop-preserved
loop-preserved g c =
    let k = c.loop.invariant in
    let a = k.len in
    let b = c.push_reserved.ensures.len in
    let last = subst (IsAtRest c.args.workers c.args.room) (sym c.new.ensures) c.in_ok-make_place.ensures in
    record {
      len = omega arith;
      space = c.push_reserved.ensures.capacity ∙ k.space;
      rest =
          subst (All (λ p. IsAtRest c.args.workers c.args.room (padded_value p))) (sym c.push_reserved.ensures.items)
          (All-push (λ p. IsAtRest c.args.workers c.args.room (padded_value p)) c.loop.places.items c.new.result k.rest last);
    }

pub invariant_of-result-clause-rest : goal.invariant_of-result-clause-rest
invariant_of-result-clause-rest g c =
    let k = c.loop.invariant in
    let a = k.len in
    let b = c.loop.auto.counter-end in
    let d = c.loop-test.false in
    let e : c.args.workers ≡ vec_len c.loop.places = omega arith in
    subst (λ n. All (λ p. IsAtRest n c.args.room (padded_value p)) c.loop.places.items) e k.rest
