use Rattle.audit_run.proofs.top_call.audit.Goals as goal

pub returns-clause-generated : goal.returns-clause-generated
returns-clause-generated g c = rw c.usual-2.ensures.limits at c.audit_with.ensures.generated
