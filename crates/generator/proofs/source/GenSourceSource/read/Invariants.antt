use Rattle.std.proofs.Common.{length, ◌-◌, ◌≡◌, ◌≤◌, ◌++◌, take, drop}
use Rattle.generator.proofs.source.GenSourceSource.read.Given as goal

-- so many bytes moved from what was left into the buffer
abbrev pub invariant-loop-filled : goal.invariant-loop-filled
invariant-loop-filled l =
    record {
      room : l.filled ≤ length l.initial.into;
      within : l.filled ≤ length l.initial.self;
      moved : l.into ≡ take l.filled l.initial.self ++ drop l.filled l.initial.into;
      left : l.self ≡ drop l.filled l.initial.self;
    }

abbrev pub decreases-loop-filled : goal.decreases-loop-filled
decreases-loop-filled l = length l.initial.into - l.filled
