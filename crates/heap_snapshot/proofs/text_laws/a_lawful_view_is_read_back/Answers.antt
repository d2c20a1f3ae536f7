use Rattle.heap_snapshot.proofs.OneText.{written_is_read_back}
use Rattle.heap_snapshot.proofs.text_laws.a_lawful_view_is_read_back.Goals as goal

pub returns : goal.returns
returns c = written_is_read_back
