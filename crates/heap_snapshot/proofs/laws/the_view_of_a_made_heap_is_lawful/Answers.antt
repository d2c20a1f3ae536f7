use Rattle.heap_snapshot.proofs.MadeHeaps.{views_are_lawful}
use Rattle.heap_snapshot.proofs.laws.the_view_of_a_made_heap_is_lawful.Goals as goal

pub returns : goal.returns
returns c = views_are_lawful
