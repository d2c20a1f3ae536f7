use Rattle.scan_job.proofs.Reaching.{found-by_path}
use Rattle.scan_job.proofs.laws.an_owner_finds_by_a_path.Goals as goal

pub returns : goal.returns
returns c = found-by_path
