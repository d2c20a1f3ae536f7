use Rattle.steal_pool.specs.Runs.{most_tasks}
use Rattle.scan_job.specs.Jobs.{shared_meaning}
use Rattle.scan_job.specs.Shared.{shared_behind}
use Rattle.scan_job.proofs.Idle.{idle-run, idle-turns}
use Rattle.scan_job.proofs.phase.run_tasks.Goals as goal

pub returns-else-not-are_empty-clause-ran : goal.returns-else-not-are_empty-clause-ran
returns-else-not-are_empty-clause-ran g c =
    let s = shared_behind c.args.context.shared.now in
    let fs = c.args.first.now.lists in
    let js = c.args.jobs.now.items in
    record {
      ran = idle-run shared_meaning s fs js c.if-not-are_empty.ensures;
      ready = c.requires.can.ready;
      turns = idle-turns shared_meaning s (most_tasks shared_meaning js fs) js;
    }
