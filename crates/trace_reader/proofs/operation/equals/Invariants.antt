use Rattle.std.proofs.Common.{◌≡◌, ◌≤◌, length, drop}
use Rattle.trace_reader.proofs.operation.equals.Given as goal

-- the letters from here on are the same
abbrev pub invariant-letters : goal.invariant-letters
invariant-letters l = (l.at ≤ length l.name) × (length l.text ≡ length l.name) × (drop l.at l.text ≡ drop l.at l.name)

abbrev pub decreases-letters : goal.decreases-letters
decreases-letters l = l.at
