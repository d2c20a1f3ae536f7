use Rattle.heap_snapshot.proofs.OneText.{stands_by_text}
use Rattle.heap_snapshot.proofs.text_laws.bytes_that_stand_for_a_view_are_its_text.Goals as goal

pub returns : goal.returns
returns c = stands_by_text
