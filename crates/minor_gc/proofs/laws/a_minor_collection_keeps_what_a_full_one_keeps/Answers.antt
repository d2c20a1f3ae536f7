use Rattle.minor_gc.proofs.Keeping.{minor_keeps_more}
use Rattle.minor_gc.proofs.laws.a_minor_collection_keeps_what_a_full_one_keeps.Goals as goal

pub returns : goal.returns
returns c = minor_keeps_more
