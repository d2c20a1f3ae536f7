use Rattle.header_rule.specs.Passes.{IsSamePass}
use Rattle.tests_marking.proofs.headers.meet_in_order.Given as goal

abbrev pub invariant-loop-nth : goal.invariant-loop-nth
invariant-loop-nth l = IsSamePass l.headers l.fn.pass l.pass
