use Rattle.scan_job.proofs.Fitting.{fit_tasks-is}
use Rattle.scan_job.proofs.laws.the_list_holds_the_fit_tasks.Goals as goal

pub returns : goal.returns
returns c = fit_tasks-is
