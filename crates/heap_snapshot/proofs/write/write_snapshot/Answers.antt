use Rattle.std.proofs.Common.{rules, ◌≡◌}
use Rattle.heap_snapshot.specs.Text.{snapshot_text}
use Rattle.heap_snapshot.proofs.OneText.{written_stands}
use Rattle.heap_snapshot.proofs.write.write_snapshot.Goals as goal

pub returns-clause-stands : goal.returns-clause-stands
returns-clause-stands c =
    let same : c.put_view.new.text.items ≡ snapshot_text c.args.view.now = search rules in
    written_stands c.args.view.now c.put_view.new.text.items same c.requires.lawful
