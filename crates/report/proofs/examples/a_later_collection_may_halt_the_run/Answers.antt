use Rattle.report.proofs.Computed.{later_violations_halt}
use Rattle.report.proofs.examples.a_later_collection_may_halt_the_run.Goals as goal

pub returns : goal.returns
returns c = later_violations_halt
