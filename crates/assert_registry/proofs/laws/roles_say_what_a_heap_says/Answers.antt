use Rattle.assert_registry.proofs.ByHeap.{roles_say_of_heap}
use Rattle.assert_registry.proofs.laws.roles_say_what_a_heap_says.Goals as goal

pub returns : goal.returns
returns c = roles_say_of_heap
