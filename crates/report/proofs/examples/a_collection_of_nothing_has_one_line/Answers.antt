use Rattle.report.proofs.Computed.{one_collection}
use Rattle.report.proofs.examples.a_collection_of_nothing_has_one_line.Goals as goal

pub returns : goal.returns
returns c = one_collection
