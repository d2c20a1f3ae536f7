use Rattle.std.proofs.Common.{◌≡◌, ◌-◌, ◌++◌, None, length, replicate}
use Rattle.heap_snapshot.proofs.stage.OpenObject.leave_empty_to.Given as goal

abbrev pub invariant-loop-place : goal.invariant-loop-place
invariant-loop-place l = record {
  count : length l.self.filled ≡ l._place;
  kept : l.self ≡ record l.fn.self { filled = l.self.filled };
  filled : l.self.filled ≡ l.fn.self.filled ++ replicate (l._place - length l.fn.self.filled) None;
}
