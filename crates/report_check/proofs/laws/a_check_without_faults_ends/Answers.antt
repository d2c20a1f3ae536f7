use Rattle.report_check.proofs.Lines.{checks-end}
use Rattle.report_check.proofs.laws.a_check_without_faults_ends.Goals as goal

pub returns : goal.returns
returns c = checks-end
