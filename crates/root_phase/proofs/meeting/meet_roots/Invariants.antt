use Rattle.std.proofs.Common.{◌≡◌, length}
use Rattle.scan_job.specs.Jobs.{IsReady, shared_graph}
use Rattle.scan_job.specs.Shared.{shared_behind}
use Rattle.scan_job.specs.Phases.{root_firsts}
use Rattle.root_phase.specs.Roots.{MeetsRoots}
use Rattle.root_phase.proofs.meeting.meet_roots.Given as goal

abbrev pub invariant-loop-root : goal.invariant-loop-root
invariant-loop-root l = record {
  met : MeetsRoots (shared_behind l.shared) l.root (record { job = l.fn.job; lists = l.fn.first.lists }) (record { job = l.job; lists = l.first.lists });
  number : l.number ≡ length (root_firsts (shared_graph l.shared) met.won);
  ready : IsReady l.job l.shared;
  room : l.first.room ≡ l.fn.first.room;
}
