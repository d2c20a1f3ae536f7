-- A scan under way: the first slots of a task's cell were met.
use Rattle.std.proofs.Common.{◌≡◌, ℕ, ◌+◌, ◌<◌, ◌≤◌, Bool, List, [], ◌∷◌, ◌++◌, length, take, get_or, sym, refl, ap, ◌∙◌, subst, arith}
use Rattle.std.proofs.Common.{append_assoc, append-nil, length-append, length-take, Option, None, Some}
use Rattle.std.specs.List.{cons_option}
use Rattle.std.proofs.Math.Seq.{take-length}
use Rattle.steal_pool.specs.declared.task.Task.{Task}
use Rattle.object_table.specs.Edges.{AreEdgesAt}
use Rattle.object_table.specs.Placed.{slots_in}
use Rattle.object_table.proofs.ObjectsByCell.{edge-within, edge-leads, edge-in_a_cell}
use Rattle.header_rule.specs.Passes.{adds}
use Rattle.steal_pool.specs.Outboxes.{HeldTasks}
use Rattle.scan_job.specs.declared.shared.ScanShared.{ScanShared}
use Rattle.scan_job.specs.Cells.{targets_of}
use Rattle.scan_job.specs.Scans.{Meeting, one_meeting, Meets, put_tasks, Scans, Works}
use Rattle.scan_job.specs.States.{ScanState, IsSameJob, IsUnspent, IsWithinWins, wins_left}
use Rattle.scan_job.specs.Jobs.{IsReady, shared_graph}
use Rattle.scan_job.proofs.Placing.{targets-more, length-targets, few-slots}
use Rattle.scan_job.proofs.Meetings.{meets-same, meets-both, puts-both, length-puts, room-falls, won_of}

-- A job and its outbox.
pub record Worker : Type 0 where
  pub job : ScanState
  pub out : HeldTasks

-- what the first slots of the task's cell lead to was met, and these were won
abbrev pub scanned : ScanShared → Task → ℕ → List ℕ → Meeting
scanned s t slots won = record { tag = t.tag; cells = targets_of s.table.now (take slots (slots_in s.table.now t.cell)); won = won }

pub record HasScanned (s : ScanShared) (t : Task) (slots : ℕ) (old new : Worker) : Type 0 where
  pub won : List ℕ
  pub meets : Meets (shared_graph s) (scanned s t slots won) old.job new.job
  pub ready : IsReady new.job s
  pub tasks : new.out.tasks ≡ old.out.tasks ++ put_tasks (shared_graph s) old.job.mode (scanned s t slots won)
  pub outbox : new.out.room ≡ old.out.room
  pub room : wins_left new.job + length won ≤ wins_left old.job

pub scan-begins : (s : ScanShared) (t : Task) (j k : ScanState) (out : HeldTasks) → IsSameJob j k → IsReady k s → HasScanned s t 0 (record { job = j; out = out }) (record { job = k; out = out })
scan-begins s t j k out same ready =
    let cells = same.cells in
    let won = ap length same.pass.wins in
    record {
      won = [];
      meets = meets-same (shared_graph s) j k t.tag same;
      ready = ready;
      tasks = sym (append-nil out.tasks);
      outbox = refl;
      room = omega arith;
    }

module _ (s : ScanShared) (t : Task) (i : ℕ) (old now : Worker) (p : HasScanned s t i old now) where
  -- there is room in the outbox for what may still be won
  pub room-left : length old.out.tasks + wins_left old.job ≤ old.out.room → length now.out.tasks + wins_left now.job ≤ now.out.room
  room-left enough =
      let a = length-puts (shared_graph s) old.job.mode (scanned s t i p.won) in
      let b = ap length p.tasks in
      let c = length-append old.out.tasks (put_tasks (shared_graph s) old.job.mode (scanned s t i p.won)) in
      let d = p.outbox in
      let e = p.room in
      omega arith

  -- the slot leads nowhere, or to the cell
  module _ (edges : List (Option ℕ)) (are : AreEdgesAt s.table.now t.cell edges) (o : Option ℕ) (within : i < length edges) (is : get_or edges i None ≡ o) where
    more : targets_of s.table.now (take (i + 1) (slots_in s.table.now t.cell)) ≡ targets_of s.table.now (take i (slots_in s.table.now t.cell)) ++ cons_option o []
    more = targets-more s.table.now p.ready.placed (slots_in s.table.now t.cell) i o (edge-within s.table.now t.cell edges are i within)
        (edge-leads s.table.now t.cell edges are i within o is) (edge-in_a_cell s.table.now t.cell edges are i within o is)

    pub scan-passes : o ≡ None → HasScanned s t (i + 1) old now
    scan-passes none =
        let same : targets_of s.table.now (take (i + 1) (slots_in s.table.now t.cell)) ≡ targets_of s.table.now (take i (slots_in s.table.now t.cell)) =
        more ∙ ap (λ (x : Option ℕ). targets_of s.table.now (take i (slots_in s.table.now t.cell)) ++ cons_option x []) none ∙ append-nil _ in
        record {
          won = p.won;
          meets = subst (λ xs. Meets (shared_graph s) (record { tag = t.tag; cells = xs; won = p.won }) old.job now.job) (sym same) p.meets;
          ready = p.ready;
          tasks = p.tasks;
          outbox = p.outbox;
          room = p.room;
        }

    pub scan-meets : (cell : ℕ) (won : Bool) (next : Worker) → o ≡ Some cell → Meets (shared_graph s) (one_meeting t.tag cell won) now.job next.job → IsWithinWins next.job → IsReady next.job s
        → next.out.tasks ≡ now.out.tasks ++ put_tasks (shared_graph s) now.job.mode (one_meeting t.tag cell won)
        → next.out.room ≡ now.out.room
        → HasScanned s t (i + 1) old next
    scan-meets cell won next some met within_wins ready tasks outbox =
        let g = shared_graph s in
        let before = scanned s t i p.won in
        let one = one_meeting t.tag cell won in
        let same : targets_of s.table.now (take (i + 1) (slots_in s.table.now t.cell)) ≡ targets_of s.table.now (take i (slots_in s.table.now t.cell)) ++ cell ∷ [] =
        more ∙ ap (λ (x : Option ℕ). targets_of s.table.now (take i (slots_in s.table.now t.cell)) ++ cons_option x []) some in
        let fall = room-falls g one now.job next.job met within_wins in
        let sum = length-append p.won (won_of won cell) in
        let before_room = p.room in
        record {
          won = p.won ++ won_of won cell;
          meets =
              subst (λ xs. Meets g (record { tag = t.tag; cells = xs; won = p.won ++ won_of won cell }) old.job next.job) (sym same)
              (meets-both g before one old.job now.job next.job refl p.meets met);
          ready = ready;
          tasks =
              tasks ∙ (λ x. p.tasks x ++ put_tasks g (p.meets.mode x) one)
              ∙ append_assoc old.out.tasks (put_tasks g old.job.mode before) (put_tasks g old.job.mode one)
              ∙ ap (λ ts. old.out.tasks ++ ts) (sym (puts-both g old.job.mode before one refl));
          outbox = outbox ∙ p.outbox;
          room = omega arith;
        }

  -- a meet is left for each slot that is left
  pub left-for-slot : i < length (slots_in s.table.now t.cell) → IsUnspent old.job → 0 < now.job.pass.left
  left-for-slot within unspent =
      let few = few-slots s.table.now p.ready.sound t.cell in
      let met = ap length p.meets.adds in
      let sum = length-append (adds old.job.pass) (targets_of s.table.now (take i (slots_in s.table.now t.cell))) in
      let short = length-targets s.table.now (take i (slots_in s.table.now t.cell)) in
      let taken = length-take i (slots_in s.table.now t.cell) in
      let before = old.job.pass.room in
      let after = now.job.pass.room in
      omega arith

-- all slots were met
module _ (s : ScanShared) (t : Task) (old now : Worker) (p : HasScanned s t (length (slots_in s.table.now t.cell)) old now) where
  abbrev pub all_slots : Meeting
  all_slots = record { tag = t.tag; cells = targets_of s.table.now (slots_in s.table.now t.cell); won = p.won }

  pub scan-scans : Scans (shared_graph s) old.job t (record { job = now.job; put = put_tasks (shared_graph s) old.job.mode all_slots })
  scan-scans = record {
    won = p.won;
    meets = subst (λ xs. Meets (shared_graph s) (record { tag = t.tag; cells = targets_of s.table.now xs; won = p.won }) old.job now.job) (take-length (slots_in s.table.now t.cell)) p.meets;
    puts = refl;
  }

  pub scan-works : IsUnspent old.job → Works (shared_graph s) old.job t (record { job = now.job; put = put_tasks (shared_graph s) old.job.mode all_slots })
  scan-works unspent = record { scans = λ _. scan-scans; idle = λ spent. absurd (omega arith) }

  pub scan-room : wins_left now.job + length (put_tasks (shared_graph s) old.job.mode all_slots) ≤ wins_left old.job
  scan-room = (let a = length-puts (shared_graph s) old.job.mode all_slots in let b = p.room in omega arith)
