use Rattle.resident_crew.proofs.Agreeing.{audits_agree}
use Rattle.resident_crew.proofs.laws.audits_with_any_workers_agree.Goals as goal

pub returns : goal.returns
returns c = audits_agree
