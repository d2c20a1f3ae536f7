use Rattle.report.proofs.Computed.{dead_and_named}
use Rattle.report.proofs.examples.an_object_asserted_dead_has_a_line.Goals as goal

pub returns : goal.returns
returns c = dead_and_named
