use Rattle.report.proofs.Computed.{ownership_is_lost}
use Rattle.report.proofs.examples.an_ownee_that_another_object_holds_has_a_line.Goals as goal

pub returns : goal.returns
returns c = ownership_is_lost
