use Rattle.trace_run.proofs.Causes.{facts_follow}
use Rattle.trace_run.proofs.laws.the_facts_of_a_run_follow.Goals as goal

pub returns : goal.returns
returns c = facts_follow
