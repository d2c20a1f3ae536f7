use Rattle.std.proofs.Common.{arith, ◌-◌, ◌≤◌, ◌+◌, length, length-take, length-drop}
use Rattle.trace_reader.proofs.Newlines.{front_searched, first_in_part}
use Rattle.trace_reader.proofs.cut.newline_in.Goals as goal

pub returns-in_err-n : goal.returns-in_err-n
returns-in_err-n c =
    rw c.from_residual.ensures (front_searched c.args.held.now c.args.searched c.min-end.result c.args.reach (omega arith) (omega arith) c.requires.searched c.in_err-n.ensures)

pub returns : goal.returns
returns c =
    let held = c.args.held.now in
    let part = c.min-end.result - c.args.searched in
    let fits : c.args.searched + part ≤ length held = omega arith in
    let found = first_in_part held c.args.searched part c.in_ok-n.n c.requires.searched c.in_ok-n.ensures fits in
    (omega (arith, simp (length-take, length-drop) at c.in_ok-n.ensures.there), found)
