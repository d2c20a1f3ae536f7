use Rattle.std.proofs.Common.{◌≡◌, ℕ, ◌<◌, length, subst, arith}
use Rattle.object_table.specs.Placed.{slots_in}
use Rattle.scan_job.specs.Scans.{put_tasks}
use Rattle.scan_job.specs.Jobs.{shared_graph}
use Rattle.scan_job.proofs.Placing.{held-from_node, is-whole}
use Rattle.scan_job.proofs.Fitting.{fit_tasks-is, fit-node, puts-fit}
use Rattle.scan_job.proofs.SlotSteps.{HasScanned, scan-begins, room-left, left-for-slot, scan-passes, scan-meets, all_slots, scan-scans, scan-works, scan-room}
use Rattle.scan_job.proofs.scanning.ScanJobJobScanShared.work.Goals as goal
use Rattle.scan_job.proofs.scanning.ScanJobJobScanShared.work.Goals.{in-Some, in_default}

pub edges_at-edges-requires : goal.edges_at-edges-requires
edges_at-edges-requires c =
    let s = c.args.shared.now in
    let j = c.args.self.now in
    let whole = is-whole s.table.now s.roles.now c.requires.ready.roles in
    let fits = (fit_tasks-is (shared_graph s) whole j.mode c.args.task).0 c.requires.fit in
    record { taken = held-from_node s.table.now s.roles.now c.args.task.cell (fit-node (shared_graph s) whole j.mode c.args.task fits) }

pub loop-slot-init : goal.loop-slot-init
loop-slot-init c =
    scan-begins c.args.shared.now c.args.task c.args.self.now c.prefetch_targets.new.self c.args.out.now c.prefetch_targets.ensures.same c.prefetch_targets.ensures.ready

pub meet_and_put-requires-clause-left : goal.meet_and_put-requires-clause-left
meet_and_put-requires-clause-left c =
    let within : c.loop-slot.slot < length (slots_in c.args.shared.now.table.now c.args.task.cell) =
    (let e = c.len-slot-end.ensures.count in let f = c.edges_at-edges.ensures.edges.count in let t = c.loop-slot-test.true in omega arith) in
    left-for-slot c.args.shared.now c.args.task c.loop-slot.slot _ _ c.loop-slot.invariant within c.if-is_spent.ensures.unspent

pub meet_and_put-requires-clause-spare : goal.meet_and_put-requires-clause-spare
meet_and_put-requires-clause-spare c =
    room-left c.args.shared.now c.args.task c.loop-slot.slot _ _ c.loop-slot.invariant c.requires.spare

pub loop-slot-preserved : goal.loop-slot-preserved
loop-slot-preserved c =
    let s = c.args.shared.now in
    let t = c.args.task in
    let i : ℕ = c.loop-slot.slot in
    let edges = c.edges_at-edges.result in
    let within : i < length edges = (let e = c.len-slot-end.ensures.count in let e2 = c.loop-slot-test.true in omega arith) in
    elim c.match-at.branch [
      | in-Some w ↦
          rw (w.self-is, w.out-is)
          (scan-meets s t i (record { job = c.args.self.now; out = c.args.out.now }) (record { job = c.loop-slot.self; out = c.loop-slot.out })
          c.loop-slot.invariant edges c.edges_at-edges.ensures.edges c.at.result within c.at.ensures w.in-Some.cell w.meet_and_put.result
          (record { job = w.meet_and_put.new.self; out = w.meet_and_put.new.out }) w.in-Some.is w.meet_and_put.ensures.meets
          w.meet_and_put.ensures.within_wins w.meet_and_put.ensures.ready w.meet_and_put.ensures.puts w.meet_and_put.ensures.outbox)
      | in_default w ↦
          rw (w.self-is, w.out-is)
          (scan-passes s t i (record { job = c.args.self.now; out = c.args.out.now }) (record { job = c.loop-slot.self; out = c.loop-slot.out })
          c.loop-slot.invariant edges c.edges_at-edges.ensures.edges c.at.result within c.at.ensures w.in_default.is)
    ]

pub returns-clause-puts : goal.returns-clause-puts
returns-clause-puts c =
    let s = c.args.shared.now in
    let t = c.args.task in
    let j = c.args.self.now in
    let k = c.loop-slot.self in
    let g = shared_graph s in
    let done : c.loop-slot.slot ≡ length (slots_in s.table.now t.cell) =
    (let e = c.len-slot-end.ensures.count in let f = c.edges_at-edges.ensures.edges.count in let e2 = c.loop-slot-test.false in let e3 = c.loop-slot.auto.slot-end in omega arith) in
    let p = subst (λ (n : ℕ). HasScanned s t n (record { job = j; out = c.args.out.now }) (record { job = k; out = c.loop-slot.out })) done c.loop-slot.invariant in
    let put = put_tasks g j.mode (all_slots s t _ _ p) in
    record {
      put = put;
      tasks = p.tasks;
      works = scan-works s t _ _ p c.if-is_spent.ensures.unspent;
      are_fit = puts-fit g j t k put (is-whole s.table.now s.roles.now c.requires.ready.roles) (scan-scans s t _ _ p) c.requires.fit;
      room = scan-room s t _ _ p;
    }
