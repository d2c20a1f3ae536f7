use Rattle.trace_run.proofs.Causes.{facts_follow}
use Rattle.audit_run.specs.Outcome.{report_by_rules}
use Rattle.audit_run.proofs.laws.the_facts_of_a_run_follow.Goals as goal

pub returns : goal.returns
returns c = λ rules. facts_follow (report_by_rules rules)
