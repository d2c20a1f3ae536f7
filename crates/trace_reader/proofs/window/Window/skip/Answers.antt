use Rattle.std.proofs.Common.{◌≤◌, ◌-◌, ◌∙◌, length, ap, drop, arith, length-take, length-drop}
use Rattle.trace_reader.proofs.Ranges.{range-skip}
use Rattle.trace_reader.proofs.window.Window.skip.Goals as goal

pub returns : goal.returns
returns c =
    let inside = c.self.inside in
    let size : length c.args.self.now ≤ inside.end - inside.start = omega (arith, simp (length-take, length-drop) at (ap length c.self.view_is)) in
    range-skip inside.buffer.items inside.start inside.end c.args.n (omega arith) ∙ ap (drop c.args.n) c.self.view_is
