use Rattle.scan_job.proofs.Reaching.{under_owners-by_path}
use Rattle.scan_job.proofs.laws.under_owners_is_by_a_path.Goals as goal

pub returns : goal.returns
returns c = under_owners-by_path
