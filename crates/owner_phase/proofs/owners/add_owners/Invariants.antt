use Rattle.std.proofs.Common.{◌≡◌, map, take}
use Rattle.scan_job.specs.Phases.{task_lists}
use Rattle.scan_job.specs.Scans.{task_at}
use Rattle.owner_phase.proofs.owners.add_owners.Given as goal

abbrev pub invariant-loop-number : goal.invariant-loop-number
invariant-loop-number l = record {
  lists : l.first.lists ≡ task_lists l.workers (map (λ o. task_at o o) (take l.number l.owners));
  room : l.first.room ≡ l.fn.first.room;
}
