use Rattle.trace_run.proofs.Causes.{equal_reports}
use Rattle.trace_run.proofs.laws.equal_reports_have_equal_runs.Goals as goal

pub returns : goal.returns
returns c = equal_reports
