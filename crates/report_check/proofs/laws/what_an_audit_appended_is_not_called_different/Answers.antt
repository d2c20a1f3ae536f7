use Rattle.report_check.proofs.AuditedReports.{audits_pass_checks}
use Rattle.report_check.proofs.laws.what_an_audit_appended_is_not_called_different.Goals as goal

pub returns : goal.returns
returns c = audits_pass_checks
