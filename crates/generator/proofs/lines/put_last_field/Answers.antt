use Rattle.std.proofs.Common.{codes, decimal}
use Rattle.generator.proofs.Lists.{append_two}
use Rattle.generator.proofs.lines.put_last_field.Goals as goal

pub returns-clause-field : goal.returns-clause-field
returns-clause-field c =
    rw (c.put-2.ensures, c.put_number.ensures.text, c.put.ensures) (append_two c.args.text.now c.args.name.now (decimal c.args.number) (codes "}\n"))
