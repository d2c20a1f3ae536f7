use Rattle.trace_run.proofs.ending.finish.Goals as goal

pub returns-in-Ok-clause-ends : goal.returns-in-Ok-clause-ends
returns-in-Ok-clause-ends g c = c.put_last.ensures.at_end _ c.in-Ok.ensures
