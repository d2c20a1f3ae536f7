use Rattle.resident_crew.proofs.Agreeing.{resident_audits_agree}
use Rattle.resident_crew.proofs.laws.resident_audits_with_any_workers_agree.Goals as goal

pub returns : goal.returns
returns c = resident_audits_agree
