use Rattle.report.proofs.Computed.{nothing_halts}
use Rattle.report.proofs.examples.a_run_without_violations_does_not_halt.Goals as goal

pub returns : goal.returns
returns c = nothing_halts
