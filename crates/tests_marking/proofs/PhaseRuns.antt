-- The tests' jobs may go through phases one after another, and their passes stay those of the headers.
use Rattle.std.proofs.Common.{◌≡◌, ℕ, ◌+◌, ◌*◌, ◌<◌, ◌≤◌, List, [], ◌∷◌, length, replicate, sym, ap, ◌∙◌, arith}
use Rattle.std.proofs.lemmas.List.{length-replicate}
use Rattle.graph_meaning.specs.Roles.{AreRolesOf}
use Rattle.header_rule.specs.Passes.{IsPassOf, ArePassesOf, numbers}
use Rattle.object_table.specs.Placed.{IsPlaced, IsSound}
use Rattle.steal_pool.specs.declared.crew.Crew.{Crew}
use Rattle.steal_pool.specs.FirstLists.{FirstLists}
use Rattle.steal_pool.specs.Lists.{Each}
use Rattle.steal_pool.specs.Runs.{workers_of, AreReady}
use Rattle.steal_pool.specs.Runs as Runs
use Rattle.scan_job.specs.declared.shared.ScanShared.{ScanShared}
use Rattle.scan_job.specs.Gains.{Gain, Grows}
use Rattle.scan_job.specs.Graphs.{StoppedGraph}
use Rattle.scan_job.specs.Jobs.{IsReady, scan_meaning}
use Rattle.scan_job.specs.Phases.{cells_in, CanScan, IsDone, from_owners}
use Rattle.scan_job.specs.Shared.{shared_behind}
use Rattle.scan_job.specs.States.{ScanState, passes_of}
use Rattle.tests_marking.specs.NewJobs.{AreAllJobs}
use Rattle.scan_job.proofs.Starting.{all-map}
use Rattle.heap_marking.proofs.NextPhase.{same-many}

-- a crew and lists for so many workers, with room for a phase
pub record HasRoom (s : ScanShared) (workers : ℕ) (crew : Crew ScanState) (first : FirstLists) : Type 0 where
  pub count : workers_of crew ≡ workers
  pub room : 2 * cells_in (shared_behind s) < Runs.room_of crew
  pub lists : length first.lists ≡ workers
  pub list_room : cells_in (shared_behind s) ≤ first.room

module _ (s : ScanShared) (workers : ℕ) (js : List ScanState) (crew : Crew ScanState) (first : FirstLists)
    (all : AreAllJobs workers s.table.now s.headers.now js) (room : HasRoom s workers crew first)
    (roles : AreRolesOf s.table.now.cells (length s.table.now.table.kinds) s.roles.now) (placed : IsPlaced s.table.now) (sound : IsSound s.table.now.table) where
  new-ready : AreReady scan_meaning s js
  new-ready k d within =
      let n = all.each k d within in
      let cells = ap (λ (j : ScanState). j.cells) n.is_new in
      record {
        pass = n.pass;
        headers = all.headers ∙ sym cells;
        cells = cells;
        kinds = ap (λ (j : ScanState). length j.tally) n.is_new ∙ length-replicate (length s.table.now.table.kinds) 0;
        roles = roles;
        placed = placed;
        sound = sound;
      }

  -- new jobs may go through a phase
  pub new-can_scan : CanScan s js crew first
  new-can_scan = record {
    ready = new-ready;
    left = λ k d within. (let left = (all.each k d within).fresh.left in omega arith);
    jobs = all.count ∙ sym room.count;
    lists = room.lists ∙ sym room.count;
    list_room = room.list_room;
    room = room.room;
  }

-- with a crew and lists that were just made for the cells new jobs may go through a phase
pub begin-scan : (s : ScanShared) (workers cells : ℕ) (js : List ScanState) (crew : Crew ScanState) (first : FirstLists) →
    AreAllJobs workers s.table.now s.headers.now js → AreRolesOf s.table.now.cells (length s.table.now.table.kinds) s.roles.now →
    IsPlaced s.table.now → IsSound s.table.now.table → cells ≡ cells_in (shared_behind s) → workers_of crew ≡ workers →
    Runs.room_of crew ≡ 2 * cells + 1 → first.lists ≡ replicate workers [] → first.room ≡ cells → CanScan s js crew first
begin-scan s workers cells js crew first all roles placed sound count crew_count room lists list_room = new-can_scan s workers js crew first all (record {
  count = crew_count;
  room = (omega arith);
  lists = ap length lists ∙ length-replicate workers [];
  list_room = (omega arith);
}) roles placed sound

same-numbers : (g : StoppedGraph) (js : List ScanState) (gains : List Gain) (ks : List ScanState) → Each (Grows g) js gains ks →
    numbers (passes_of ks) ≡ numbers (passes_of js)
same-numbers g [] gains ks e = ap (λ is. numbers (passes_of is)) e.1
same-numbers g (j ∷ js) [] ks e = absurd e
same-numbers g (j ∷ js) (a ∷ gains) [] e = absurd e
same-numbers g (j ∷ js) (a ∷ gains) (k ∷ ks) e = λ i. e.0.number i ∷ same-numbers g js gains ks e.1 i

-- after a first phase they may go through another
pub scan-again : (s : ScanShared) (workers : ℕ) (js ks : List ScanState) (crew : Crew ScanState) (first : FirstLists) →
    AreAllJobs workers s.table.now s.headers.now js → HasRoom s workers crew first →
    IsDone (shared_behind s) from_owners js ks → CanScan s ks crew first
scan-again s workers js ks crew first all room done = record {
  ready = done.ready;
  left = done.left;
  jobs = same-many (shared_behind s) from_owners js ks done ∙ all.count ∙ sym room.count;
  lists = room.lists ∙ sym room.count;
  list_room = room.list_room;
  room = room.room;
}

-- jobs that grew have the passes of the headers, in order
pub passes-after : (s : ScanShared) (g : StoppedGraph) (js : List ScanState) (gains : List Gain) (ks : List ScanState) →
    Each (Grows g) js gains ks → AreReady scan_meaning s ks → ArePassesOf s.headers.now (passes_of js) →
    ArePassesOf s.headers.now (passes_of ks)
passes-after s g js gains ks grown ready are = (
  all-map (λ (j : ScanState). j.pass) (λ j. IsReady j s) (IsPassOf s.headers.now) (λ j r. r.pass) ks ready,
  same-numbers g js gains ks grown ∙ are.1,
)
