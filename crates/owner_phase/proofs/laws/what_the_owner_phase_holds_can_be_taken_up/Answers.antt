use Rattle.scan_job.proofs.Gaining.{held-under}
use Rattle.owner_phase.proofs.laws.what_the_owner_phase_holds_can_be_taken_up.Goals as goal

pub returns : goal.returns
returns c = held-under
