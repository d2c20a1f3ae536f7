use Rattle.report.proofs.Computed.{least_predecessor}
use Rattle.report.proofs.examples.a_path_names_each_slot_and_object.Goals as goal

pub returns : goal.returns
returns c = least_predecessor
