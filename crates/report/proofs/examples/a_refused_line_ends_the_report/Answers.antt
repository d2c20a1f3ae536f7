use Rattle.report.proofs.Computed.{freed_is_not_live}
use Rattle.report.proofs.examples.a_refused_line_ends_the_report.Goals as goal

pub returns : goal.returns
returns c = freed_is_not_live
