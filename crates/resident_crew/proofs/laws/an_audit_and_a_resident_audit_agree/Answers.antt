use Rattle.resident_crew.proofs.Agreeing.{audit_and_resident_agree}
use Rattle.resident_crew.proofs.laws.an_audit_and_a_resident_audit_agree.Goals as goal

pub returns : goal.returns
returns c = audit_and_resident_agree
