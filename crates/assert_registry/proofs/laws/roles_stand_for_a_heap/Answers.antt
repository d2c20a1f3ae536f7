use Rattle.assert_registry.proofs.ByHeap.{roles_stand_for_heap}
use Rattle.assert_registry.proofs.laws.roles_stand_for_a_heap.Goals as goal

pub returns : goal.returns
returns c = roles_stand_for_heap
