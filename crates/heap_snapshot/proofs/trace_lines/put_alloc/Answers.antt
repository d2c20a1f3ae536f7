use Rattle.std.proofs.Common.{◌++◌, ap, sym, ◌∙◌, codes, decimal, length}
use Rattle.json.specs.Print.{quoted}
use Rattle.heap_snapshot.proofs.Spelled.{alloc_spelled, seven}
use Rattle.heap_snapshot.proofs.trace_lines.put_alloc.Goals as goal

pub returns : goal.returns
returns c =
    rw (c.in_ok-put-4.ensures, c.in_ok-put_name.ensures, c.in_ok-put-3.ensures, c.in_ok-put_number-2.ensures, c.in_ok-put-2.ensures, c.in_ok-put_number.ensures, c.in_ok-put.ensures, c.len.ensures)
    (seven c.args.text.now.items (codes "{\"id\":") (decimal c.args.object.now.id) (codes ",\"op\":\"alloc\",\"slots\":")
    (decimal (length c.args.object.now.slots)) (codes ",\"type\":") (quoted c.args.object.now.kind) (codes "}\n")
    ∙ ap (λ t. c.args.text.now.items ++ t) (sym (alloc_spelled c.args.object.now.id (length c.args.object.now.slots) c.args.object.now.kind)))
