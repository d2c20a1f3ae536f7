use Rattle.heap_snapshot.proofs.OneText.{dangles_in_text}
use Rattle.heap_snapshot.proofs.text_laws.a_dangling_id_stands_in_its_line.Goals as goal

pub returns : goal.returns
returns c = dangles_in_text
