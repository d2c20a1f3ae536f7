use Rattle.std.proofs.Common.{refl}
use Rattle.parked_crew.proofs.Tasks.{goes_on}
use Rattle.parked_crew.proofs.task_work.JobShareShare.work.Goals as goal

pub loop-task-preserved : goal.loop-task-preserved
loop-task-preserved g c =
    let w = c.work.ensures in
    goes_on g.J.Job.meaning _ c.loop-task.self c.next.new.self _ c.deref-shared.result.now c.in-Some.task c.loop-task.invariant
    c.in-Some.ensures.next c.deref-shared.ensures refl refl refl w.outbox w.puts w.ready w.fit w.turns
