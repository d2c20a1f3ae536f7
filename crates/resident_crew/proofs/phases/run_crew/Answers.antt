use Rattle.std.proofs.Common.{◌≡◌, sym, subst}
use Rattle.std.specs.Arc.{arc_value}
use Rattle.std.proofs.lemmas.Result.{IfOk-weaker}
use Rattle.steal_pool.specs.Runs.{Workload}
use Rattle.scan_job.specs.Phases.{HasRunJobs}
use Rattle.scan_job.specs.States.{ScanState}
use Rattle.resident_crew.specs.Scans.{shared_by_scan}
use Rattle.resident_crew.proofs.OwnedRuns.{has-run}
use Rattle.resident_crew.proofs.phases.run_crew.Goals as goal

pub returns-clause-ran : goal.returns-clause-ran
returns-clause-ran g c =
    let s = arc_value c.args.context.now.shared.now in
    let fs = c.args.first.now.lists in
    let js = c.args.jobs.items in
    let ran = c.in_ok-jobs-2.ensures in
    let ks = c.in_ok-jobs-2.jobs.items in
    let has = subst (λ zs. HasRunJobs (shared_by_scan s) (record { jobs = zs; first = fs }) ks) c.in_ok-jobs.ensures (has-run s fs c.in_ok-jobs.jobs.items ks ran.ran ran.ready ran.turns) in
    let load : Workload ScanState = record { jobs = js; first = fs } in
    IfOk-weaker c.unwrap.result (λ out. out.items ≡ ks) (λ out. HasRunJobs (shared_by_scan s) load out.items) (λ out is. subst (HasRunJobs (shared_by_scan s) load) (sym is) has) c.unwrap.ensures
