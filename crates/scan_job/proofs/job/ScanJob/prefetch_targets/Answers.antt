use Rattle.std.proofs.Common.{◌∙◌, arith}
use Rattle.object_table.proofs.ObjectsByCell.{edge-held}
use Rattle.scan_job.proofs.Meetings.{same-job, same-jobs}
use Rattle.scan_job.proofs.job.ScanJob.prefetch_targets.Goals as goal
use Rattle.scan_job.proofs.job.ScanJob.prefetch_targets.Goals.{in-Some, in_default}

pub loop-slot-init : goal.loop-slot-init
loop-slot-init c = record { ready = c.requires.ready; same = same-job c.args.self.now }

pub prefetch-requires-clause-cell : goal.prefetch-requires-clause-cell
prefetch-requires-clause-cell c =
    let (cell, are) = c.requires.edges in
    edge-held c.args.shared.now.table.now cell c.args.edges.now are c.loop-slot.slot
    (let e = c.len-slot-end.ensures.count in let e2 = c.loop-slot-test.true in omega arith) c.in-Some.target (c.at.ensures ∙ c.in-Some.is)

pub loop-slot-preserved : goal.loop-slot-preserved
loop-slot-preserved c =
    let p = c.loop-slot.invariant in
    elim c.match-at.branch [
      | in-Some w ↦ rw w.self-is (record { ready = w.prefetch.ensures.ready; same = same-jobs c.args.self.now c.loop-slot.self w.prefetch.new.self p.same w.prefetch.ensures.same })
      | in_default w ↦ rw w.self-is p
    ]

pub returns-clause-same : goal.returns-clause-same
returns-clause-same c = c.loop-slot.invariant.same
