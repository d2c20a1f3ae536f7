use Rattle.report.proofs.Computed.{nothing}
use Rattle.report.proofs.examples.a_trace_of_nothing_has_the_end_line.Goals as goal

pub returns : goal.returns
returns c = nothing
