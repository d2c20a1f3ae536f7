use Rattle.minor_gc.proofs.Keeping.{minor_keeps_old}
use Rattle.minor_gc.proofs.laws.a_minor_collection_frees_no_old_object.Goals as goal

pub returns : goal.returns
returns c = minor_keeps_old
