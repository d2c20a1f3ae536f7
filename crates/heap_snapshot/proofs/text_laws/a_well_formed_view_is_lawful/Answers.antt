use Rattle.heap_snapshot.proofs.Lawful.{well_formed_is_lawful}
use Rattle.heap_snapshot.proofs.text_laws.a_well_formed_view_is_lawful.Goals as goal

pub returns : goal.returns
returns c = well_formed_is_lawful
