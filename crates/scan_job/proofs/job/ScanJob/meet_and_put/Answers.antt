use Rattle.std.proofs.Common.{length, ap, arith}
use Rattle.scan_job.specs.Jobs.{shared_graph}
use Rattle.scan_job.specs.Scans.{one_meeting}
use Rattle.scan_job.proofs.Meetings.{room-falls}
use Rattle.scan_job.proofs.job.ScanJob.meet_and_put.Goals as goal

pub put-requires : goal.put-requires
put-requires c =
    let falls =
    room-falls (shared_graph c.args.shared.now) (one_meeting c.args.tag c.args.cell c.meet-won.result) c.args.self.now c.meet-won.new.self c.meet-won.ensures.meets c.meet-won.ensures.within_wins in
    let won = ap (λ b. length (one_meeting c.args.tag c.args.cell b).won) c.if-won.true in
    let spare = c.requires.spare in
    omega arith
