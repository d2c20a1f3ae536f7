use Rattle.report.proofs.Computed.{array_is_let_go}
use Rattle.report.proofs.examples.an_ownee_of_an_array_that_was_let_go_has_a_line.Goals as goal

pub returns : goal.returns
returns c = array_is_let_go
