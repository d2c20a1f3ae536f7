use Rattle.std.proofs.Common.{◌≡◌, ℕ, ◌*◌, ◌≤◌, ◌++◌, length, map, take}
use Rattle.std.specs.List.{All}
use Rattle.scan_job.specs.Phases.{all_held, task_lists}
use Rattle.scan_job.specs.Scans.{task_at}
use Rattle.owner_phase.proofs.held.add_held.Given as goal

abbrev pub invariant-loop-job : goal.invariant-loop-job
invariant-loop-job l = record {
  lists : l.first.lists ≡ task_lists l.workers (map (task_at 0) (all_held (take l.job-index l.jobs)));
  number : l.number ≡ length (all_held (take l.job-index l.jobs));
  room : l.first.room ≡ l.fn.first.room;
  few : (cells : ℕ) → All (λ j. j.cells ≤ cells) l.jobs → length (all_held (take l.job-index l.jobs)) ≤ l.job-index * cells;
}

abbrev pub invariant-loop-cell : goal.invariant-loop-cell
invariant-loop-cell l = record {
  lists : l.first.lists ≡ task_lists l.workers (map (task_at 0) (all_held (take l.job-index l.jobs) ++ take l.cell-index l.cell-items));
  number : l.number ≡ length (all_held (take l.job-index l.jobs) ++ take l.cell-index l.cell-items);
  room : l.first.room ≡ l.fn.first.room;
}
