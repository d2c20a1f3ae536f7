use Rattle.std.proofs.Common.{arith, ◌<◌}
use Rattle.generator.proofs.Text.{text_next}
use Rattle.generator.proofs.pieces.Pieces.make_next.Goals as goal

pub returns-else-self-2-clause-text : goal.returns-else-self-2-clause-text
returns-else-self-2-clause-text c =
    let p = c.self.inside in
    let low : p.made < p.plan.size = omega (arith, c.self.invariant.0, c.if-self-2.false) in
    rw (← c.self.view_is, c.if-self.false, c.put_object.ensures.lines, c.draw-draw.ensures.drawn, c.draw-draw.ensures.state, c.self.invariant.1) (text_next p.plan.number p.plan.size p.made low)
