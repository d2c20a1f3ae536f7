use Rattle.std.proofs.Common.{codes, decimal}
use Rattle.generator.specs.Text.{owned_line}
use Rattle.generator.proofs.Lists.{append_line}
use Rattle.generator.proofs.lines.put_owned.Goals as goal

pub returns-clause-line : goal.returns-clause-line
unfolding owned_line
returns-clause-line c =
    rw (c.put_last_field.ensures.field, c.put_number.ensures.text, c.put.ensures)
    (append_line c.args.text.now (codes "{\"op\":\"assert-ownedby\",\"owner\":") (decimal c.args.owner) (codes ",\"ownee\":") (decimal c.args.ownee) (codes "}\n"))
