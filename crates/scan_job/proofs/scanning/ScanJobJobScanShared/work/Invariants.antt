use Rattle.scan_job.proofs.SlotSteps.{HasScanned}
use Rattle.scan_job.proofs.scanning.ScanJobJobScanShared.work.Given as goal

abbrev pub invariant-loop-slot : goal.invariant-loop-slot
invariant-loop-slot l =
    HasScanned l.shared l.task l.slot (record { job = l.fn.self; out = l.fn.out }) (record { job = l.self; out = l.out })
