use Rattle.std.proofs.Common.{◌≡◌, ◌++◌}
use Rattle.std.specs.Map.{values_of}
use Rattle.verdict_list.proofs.over_limit.values.Given as goal

abbrev pub invariant-loop-number : goal.invariant-loop-number
invariant-loop-number l = l.values.items ++ l.number-iterator ≡ values_of l.numbers.entries
