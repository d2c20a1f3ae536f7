use Rattle.heap_snapshot.proofs.Formed.{lawful_is_well_formed}
use Rattle.heap_snapshot.proofs.text_laws.a_lawful_view_is_well_formed.Goals as goal

pub returns : goal.returns
returns c = lawful_is_well_formed
