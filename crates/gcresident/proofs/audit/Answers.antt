use Rattle.gcresident.proofs.Unbegun.{nothing_read_or_written}
use Rattle.gcresident.proofs.audit.Goals as goal

pub returns-in-Err : goal.returns-in-Err
returns-in-Err g c = nothing_read_or_written _ _
