-- Jobs that have gone through one phase can go through the next.
use Rattle.std.proofs.Common.{◌≡◌, List, length, sym, ◌∙◌, arith}
use Rattle.steal_pool.specs.declared.crew.Crew.{Crew}
use Rattle.steal_pool.specs.FirstLists.{FirstLists}
use Rattle.steal_pool.specs.Runs.{workers_of, room_of}
use Rattle.scan_job.specs.Shared.{SharedHeap, shared_behind}
use Rattle.scan_job.specs.declared.shared.ScanShared.{ScanShared}
use Rattle.scan_job.specs.Jobs.{graph_in}
use Rattle.scan_job.specs.Phases.{CanBeginPhase, CanScan, Phase, IsDone}
use Rattle.scan_job.specs.States.{ScanState}
use Rattle.scan_job.proofs.PhaseRuns.{can-begin}
use Rattle.heap_marking.proofs.WholeTrace.{grown-many}

-- there are as many jobs as before
pub same-many : (s : SharedHeap) (phase : Phase) (js ks : List ScanState) → IsDone s phase js ks → length ks ≡ length js
same-many s phase js ks done = grown-many (graph_in s) js done.gains.gains ks done.gains.each

-- Jobs that went through a phase can begin the next, whoever ran them.
pub next-begins : (s : SharedHeap) (phase : Phase) (js ks : List ScanState) (first then : FirstLists) → CanBeginPhase s js first → IsDone s phase js ks →
    length then.lists ≡ length js → then.room ≡ first.room → CanBeginPhase s ks then
next-begins s phase js ks first then can done lists first_room =
    let some = can.some in
    let few = can.few in
    let many = same-many s phase js ks done in
    record {
      some = omega arith;
      few = omega arith;
      ready = done.ready;
      left = done.left;
      lists = lists ∙ sym many;
      list_room = (let l = can.list_room in omega arith);
    }

-- The same where a crew ran them, which is as large as before.
pub next-scans : (s : ScanShared) (phase : Phase) (js ks : List ScanState) (crew next : Crew ScanState) (first then : FirstLists) →
    CanScan s js crew first → IsDone (shared_behind s) phase js ks → length then.lists ≡ workers_of crew → then.room ≡ first.room →
    room_of next ≡ room_of crew → workers_of next ≡ workers_of crew → CanScan s ks next then
next-scans s phase js ks crew next first then can done lists first_room room workers =
    let begins = next-begins (shared_behind s) phase js ks first then (can-begin s js crew first can) done (lists ∙ sym can.jobs) first_room in
    let jobs = same-many (shared_behind s) phase js ks done ∙ can.jobs ∙ sym workers in
    record {
      ready = begins.ready;
      left = begins.left;
      jobs = jobs;
      lists = begins.lists ∙ jobs;
      list_room = begins.list_room;
      room = (let l = can.room in omega arith);
    }
