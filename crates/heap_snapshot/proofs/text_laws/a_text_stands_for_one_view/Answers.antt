use Rattle.heap_snapshot.proofs.OneText.{text_tells_view}
use Rattle.heap_snapshot.proofs.text_laws.a_text_stands_for_one_view.Goals as goal

pub returns : goal.returns
returns c = text_tells_view
