use Rattle.std.proofs.Common.{◌++◌, ap, sym, ◌∙◌, codes, decimal}
use Rattle.heap_snapshot.proofs.Spelled.{store_spelled, seven}
use Rattle.heap_snapshot.proofs.trace_lines.put_store.Goals as goal

pub returns : goal.returns
returns c =
    rw (c.in_ok-put-4.ensures, c.in_ok-put_number-3.ensures, c.in_ok-put-3.ensures, c.in_ok-put_number-2.ensures, c.in_ok-put-2.ensures, c.in_ok-put_number.ensures, c.in_ok-put.ensures)
    (seven c.args.text.now.items (codes "{\"at\":") (decimal c.args.at) (codes ",\"op\":\"store\",\"slot\":") (decimal c.args.slot) (codes ",\"to\":") (decimal c.args.to) (codes "}\n")
    ∙ ap (λ t. c.args.text.now.items ++ t) (sym (store_spelled c.args.at c.args.slot c.args.to)))
