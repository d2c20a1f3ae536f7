use Rattle.std.proofs.lemmas.Result.{IfOk-weaker}
use Rattle.scan_job.specs.Phases.{IsDone, from_owners}
use Rattle.scan_job.specs.Shared.{shared_behind}
use Rattle.scan_job.specs.States.{NoneSpent}
use Rattle.owner_phase.proofs.owners.owner_phase.Goals as goal

pub returns-clause-done : goal.returns-clause-done
returns-clause-done g c =
    let s = shared_behind c.args.shared.now in
    let js = c.args.jobs.now.items in
    let ks = c.run_scans.new.jobs.items in
    IfOk-weaker c.run_scans.result (λ _. NoneSpent ks) (λ _. IsDone s from_owners js ks) (λ _ left. c.begin_owner_phase.ensures.begun.done ks c.run_scans.ensures.ran left) c.run_scans.ensures.left
