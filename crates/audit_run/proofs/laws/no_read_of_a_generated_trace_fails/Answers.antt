use Rattle.trace_run.proofs.Causes.{no_read_fails}
use Rattle.audit_run.specs.Outcome.{report_by_rules}
use Rattle.audit_run.proofs.laws.no_read_of_a_generated_trace_fails.Goals as goal

pub returns : goal.returns
returns c = λ rules. no_read_fails (report_by_rules rules)
