use Rattle.std.proofs.Common.{arith}
use Rattle.scan_job.proofs.Meetings.{few-wins}
use Rattle.scan_job.proofs.scanning.ScanJobJobScanShared.room.Goals as goal

pub overflow_sub-result : goal.overflow_sub-result
overflow_sub-result c =
    let few = few-wins _ c.self.invariant.2 in
    let won = c.self.invariant.0 in
    omega arith
