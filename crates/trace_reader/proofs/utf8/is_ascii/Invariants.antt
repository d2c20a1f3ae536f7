use Rattle.std.proofs.Common.{ℕ, ◌-◌, ◌<◌, ◌≤◌, length, get_or}
use Rattle.trace_reader.proofs.utf8.is_ascii.Given as goal

-- the bytes of the steps that were made are ASCII
abbrev pub invariant-steps : goal.invariant-steps
invariant-steps l = (l.at ≤ length l.bytes) × ((i : ℕ) → i < l.at → get_or l.bytes i 0 < 128)

abbrev pub decreases-steps : goal.decreases-steps
decreases-steps l = length l.bytes - l.at
