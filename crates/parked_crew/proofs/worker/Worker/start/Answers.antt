use denote.Param.Send.{sendable}
use Rattle.std.proofs.Crossing.{crosses}
use Rattle.parked_crew.proofs.Sendable.{thread_side_send}
use Rattle.parked_crew.proofs.worker.Worker.start.Goals as goal

pub spawn-requires-send-F : goal.spawn-requires-send-F
spawn-requires-send-F g c κs within = search (sendable, crosses, thread_side_send) depth 80
