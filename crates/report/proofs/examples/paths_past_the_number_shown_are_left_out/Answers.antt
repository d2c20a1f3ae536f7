use Rattle.report.proofs.Computed.{one_path_is_shown}
use Rattle.report.proofs.examples.paths_past_the_number_shown_are_left_out.Goals as goal

pub returns : goal.returns
returns c = one_path_is_shown
