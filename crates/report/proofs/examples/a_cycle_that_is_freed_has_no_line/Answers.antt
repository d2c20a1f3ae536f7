use Rattle.report.proofs.Computed.{cycle_is_freed}
use Rattle.report.proofs.examples.a_cycle_that_is_freed_has_no_line.Goals as goal

pub returns : goal.returns
returns c = cycle_is_freed
