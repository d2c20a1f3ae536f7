use Rattle.header_rule.specs.Passes.{ArePassesOf}
use Rattle.tests_audit.proofs.tests.by_hand.words_by_hand.Given as goal

abbrev pub invariant-loop : goal.invariant-loop
invariant-loop l = ArePassesOf l.headers l.passes.items
