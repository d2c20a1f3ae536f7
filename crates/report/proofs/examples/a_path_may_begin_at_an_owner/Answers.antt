use Rattle.report.proofs.Computed.{paths_from_an_owner}
use Rattle.report.proofs.examples.a_path_may_begin_at_an_owner.Goals as goal

pub returns : goal.returns
returns c = paths_from_an_owner
