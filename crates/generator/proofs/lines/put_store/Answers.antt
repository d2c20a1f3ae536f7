use Rattle.std.proofs.Common.{codes, decimal}
use Rattle.generator.specs.Text.{store_line}
use Rattle.generator.proofs.Lists.{append_long_line}
use Rattle.generator.proofs.lines.put_store.Goals as goal

pub returns-clause-line : goal.returns-clause-line
unfolding store_line
returns-clause-line c =
    rw (c.put_last_field.ensures.field, c.put_number-2.ensures.text, c.put-2.ensures, c.put_number.ensures.text, c.put.ensures)
    (append_long_line c.args.text.now (codes "{\"op\":\"store\",\"at\":") (decimal c.args.at) (codes ",\"slot\":") (decimal c.args.slot) (codes ",\"to\":") (decimal c.args.to) (codes "}\n"))
