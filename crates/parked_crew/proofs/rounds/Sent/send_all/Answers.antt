use Rattle.std.proofs.Common.{◌≡◌, ◌+◌, ◌≤◌, ◌++◌, [], ◌∷◌, append_assoc, arith, ap, length, ◌∙◌, vec_len, vec_capacity}
use Rattle.std.specs.Vec.Iter.{into_iter_items}
use Rattle.parked_crew.proofs.rounds.Sent.send_all.Goals as goal
use Rattle.parked_crew.proofs.rounds.Sent.send_all.Goals.{in-Some-hand, in_default}

pub loop-round-preserved : goal.loop-round-preserved
loop-round-preserved g c =
    let at = c.loop-round in
    let x = c.in-Some.round in
    let steps : into_iter_items at.round-iterator ≡ x ∷ into_iter_items c.next.new.self = c.in-Some.ensures.steps.0 in
    let short = ap length steps in
    let pushed = c.push_reserved-in-loop-round.ensures in
    let len = pushed.len in
    let capacity = pushed.capacity in
    let count = at.invariant.count in
    let few = at.invariant.few in
    let room = at.invariant.room in
    let same : c.match-hand.self.rounds ≡ at.self.rounds = elim c.match-hand.branch [ in-Some-hand w ↦ ap (λ s. s.rounds) w.self-is | in_default w ↦ ap (λ s. s.rounds) w.self-is ] in
    let same-len = ap vec_len same in
    let same-capacity = ap vec_capacity same in
    let more : vec_len c.match-hand.self.left ≤ vec_len at.self.left + 1 =
    elim c.match-hand.branch [
      | in-Some-hand w ↦ (let is = ap (λ s. vec_len s.left) w.self-is in let one = w.push_reserved.ensures.len in omega arith)
      | in_default w ↦ (let is = ap (λ s. vec_len s.left) w.self-is in omega arith)
    ] in
    let as-much : vec_capacity c.match-hand.self.left ≡ vec_capacity at.self.left =
    elim c.match-hand.branch [
      | in-Some-hand w ↦ (let is = ap (λ s. vec_capacity s.left) w.self-is in let kept = w.push_reserved.ensures.capacity in omega arith)
      | in_default w ↦ ap (λ s. vec_capacity s.left) w.self-is
    ] in
    record {
      all = append_assoc at.yielded (x ∷ []) _ ∙ rw (← steps) at.invariant.all;
      left = (let was = at.invariant.left in let gone = c.in-Some.ensures.steps.1 in omega arith);
      made = pushed.items ∙ (λ i. (ap (λ s. s.items) same ∙ at.invariant.made) i ++ c.send-caller.ensures i ∷ []);
      count = omega arith;
      few = omega arith;
      room = (omega arith, omega arith);
    }
