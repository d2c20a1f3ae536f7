use Rattle.std.proofs.Common.{arith, sym, ap, ◌∙◌}
use Rattle.heap_base.specs.Counting.{bit, is_positive}
use Rattle.header_rule.proofs.Whole.{tells_all}
use Rattle.header_rule.proofs.shared_words.SharedWords.close.Goals as goal

pub invariant_of-result : goal.invariant_of-result
invariant_of-result c =
    let counts = c.close_with-closed.ensures.counts in
    let sized = c.args.self.sized in
    omega arith

pub returns-clause-tell : goal.returns-clause-tell
returns-clause-tell c =
    let t = c.args.self in
    let seat = c.joined-seat.result in
    let joined = c.joined-seat.ensures in
    let all = tells_all t.table.shared.key seat.id seat.me.0 _ _ joined.rights c.close_with-closed.ensures.values.2 in
    let counts = c.close_with-closed.ensures.counts in
    let sized = t.sized in
    record {
      counts = λ x within. all.counts x (omega arith) ∙ joined.adds x;
      marks = λ m x within. all.marks m x (omega arith) ∙ ap is_positive (joined.marks m x);
      wins = λ x. sym (joined.wins x) ∙ (all.wins x ∙ ap (λ n. bit (is_positive n)) (joined.adds x));
    }
