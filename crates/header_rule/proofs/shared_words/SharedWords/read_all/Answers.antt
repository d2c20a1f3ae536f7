use Rattle.std.proofs.Common.{◌+◌, sym, refl, ap, ◌∙◌, arith}
use Rattle.heap_base.specs.Counting.{bit, is_positive}
use Rattle.header_rule.proofs.shared_words.SharedWords.read_all.Goals as goal

pub returns-clause-tell : goal.returns-clause-tell
returns-clause-tell c =
    let joined = c.joined-whole.ensures in
    let sized = c.args.self.now.sized in
    let many = c.word_count-many.ensures in
    let all = c.loop-word-test.false in
    let count = c.loop-word.invariant.count in
    let told = c.loop-word.invariant.each 0 (omega arith) in
    record {
      counts = λ x within. (c.loop-word.invariant.each (x + 1) (omega arith)).count x refl ∙ joined.adds x;
      marks = λ m x within. (c.loop-word.invariant.each (x + 1) (omega arith)).marks m x refl ∙ ap is_positive (joined.marks m x);
      wins = λ x. sym (joined.wins x) ∙ (told.wins x ∙ ap (λ n. bit (is_positive n)) (joined.adds x));
    }
