use Rattle.report.proofs.Computed.{violation_halts}
use Rattle.report.proofs.examples.a_violation_halts_the_run.Goals as goal

pub returns : goal.returns
returns c = violation_halts
