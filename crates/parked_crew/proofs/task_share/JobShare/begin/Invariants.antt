use Rattle.std.proofs.Common.{◌≡◌, take}
use Rattle.parked_crew.specs.Shares.{IsBegun}
use Rattle.parked_crew.proofs.task_share.JobShare.begin.Given as goal

abbrev pub invariant-loop-task : goal.invariant-loop-task
invariant-loop-task g l = record {
  begun : IsBegun l.fn.self l.self;
  dealt : l.self.list.items ≡ take l.task-index l.list;
}
