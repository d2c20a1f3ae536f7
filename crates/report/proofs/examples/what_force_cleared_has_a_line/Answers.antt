use Rattle.report.proofs.Computed.{dead_is_cut_off}
use Rattle.report.proofs.examples.what_force_cleared_has_a_line.Goals as goal

pub returns : goal.returns
returns c = dead_is_cut_off
