use Rattle.report_check.proofs.AuditedReports.{equal_is_appended}
use Rattle.report_check.proofs.laws.what_a_check_calls_equal_is_appended.Goals as goal

pub returns : goal.returns
returns c = equal_is_appended
