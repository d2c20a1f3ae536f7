use Rattle.trace_run.proofs.Causes.{no_read_fails}
use Rattle.trace_run.proofs.laws.no_read_without_faults_fails.Goals as goal

pub returns : goal.returns
returns c = no_read_fails
