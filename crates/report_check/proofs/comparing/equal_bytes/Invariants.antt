use Rattle.std.proofs.Common.{length, ◌-◌, ◌≡◌, ◌≤◌, take}
use Rattle.report_check.proofs.comparing.equal_bytes.Given as goal

abbrev pub invariant-loop-equal : goal.invariant-loop-equal
invariant-loop-equal l = (l.equal ≤ length l.some) × (l.equal ≤ length l.others) × (take l.equal l.some ≡ take l.equal l.others)

abbrev pub decreases-loop-equal : goal.decreases-loop-equal
decreases-loop-equal l = length l.some - l.equal
