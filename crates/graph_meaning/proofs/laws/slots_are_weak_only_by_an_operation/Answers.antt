use Rattle.graph_meaning.proofs.Weak.{weak_only_by_operation}
use Rattle.graph_meaning.proofs.laws.slots_are_weak_only_by_an_operation.Goals as goal

pub returns : goal.returns
returns c = weak_only_by_operation
