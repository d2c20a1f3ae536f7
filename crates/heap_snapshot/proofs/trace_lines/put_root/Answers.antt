use Rattle.std.proofs.Common.{◌++◌, ap, sym, ◌∙◌, codes, decimal}
use Rattle.json.specs.Print.{quoted}
use Rattle.heap_snapshot.proofs.Spelled.{root_spelled, five}
use Rattle.heap_snapshot.proofs.trace_lines.put_root.Goals as goal

pub returns : goal.returns
returns c =
    rw (c.in_ok-put-3.ensures, c.in_ok-put_number.ensures, c.in_ok-put-2.ensures, c.in_ok-put_name.ensures, c.in_ok-put.ensures)
    (five c.args.text.now.items (codes "{\"name\":") (quoted c.args.name.now) (codes ",\"op\":\"root\",\"to\":") (decimal c.args.to) (codes "}\n")
    ∙ ap (λ t. c.args.text.now.items ++ t) (sym (root_spelled c.args.name.now c.args.to)))
