use Rattle.std.proofs.Common.{◌≡◌, []}
use Rattle.std.proofs.lemmas.Result.{IfOk-weaker}
use Rattle.scan_job.specs.Jobs.{shared_graph}
use Rattle.scan_job.specs.Phases.{IsDone, RootGains, all_held, from_roots}
use Rattle.scan_job.specs.Shared.{shared_behind}
use Rattle.scan_job.specs.States.{NoneSpent}
use Rattle.scan_job.proofs.Gaining.{none-held}
use Rattle.root_phase.proofs.roots.root_phase.Goals as goal

pub returns-clause-done : goal.returns-clause-done
returns-clause-done g c =
    let s = shared_behind c.args.shared.now in
    let js = c.args.jobs.now.items in
    let ks = c.run_scans.new.jobs.items in
    IfOk-weaker c.run_scans.result (λ _. NoneSpent ks) (λ _. IsDone s from_roots js ks) (λ _ left. c.begin_root_phase.ensures.begun.done ks c.run_scans.ensures.ran left) c.run_scans.ensures.left

pub returns-clause-none_held : goal.returns-clause-none_held
returns-clause-none_held g c =
    let gr = shared_graph c.args.shared.now in
    let js = c.args.jobs.now.items in
    let ks = c.run_scans.new.jobs.items in
    IfOk-weaker c.run_scans.result (λ _. NoneSpent ks) (λ _. all_held ks ≡ [])
    (λ _ left. let gained = (c.begin_root_phase.ensures.begun.done ks c.run_scans.ensures.ran left).gains in none-held gr js ks (RootGains gr) gained gained.all.none_held) c.run_scans.ensures.left
