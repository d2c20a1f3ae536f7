use Rattle.minor_gc.proofs.Keeping.{none_young_after}
use Rattle.minor_gc.proofs.laws.no_object_is_young_after_a_collection.Goals as goal

pub returns : goal.returns
returns c = none_young_after
