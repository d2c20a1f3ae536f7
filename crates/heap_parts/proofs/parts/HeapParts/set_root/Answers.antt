use Rattle.heap_parts.proofs.Operations.{steps-root}
use Rattle.heap_parts.proofs.Stepping.{parts_in}
use Rattle.heap_parts.proofs.parts.HeapParts.set_root.Goals as goal

pub invariant_of-self : goal.invariant_of-self
invariant_of-self c =
    let s = parts_in c.self.inside in
    (steps-root s c.self.invariant c.set_root.new.self c.set_root.result c.args.name.now c.args.to c.set_root.ensures.refused c.set_root.ensures.set c.set_root.ensures.err).1

pub returns : goal.returns
returns c =
    let s = parts_in c.self.inside in
    rw (← c.self.view_is)
    (steps-root s c.self.invariant c.set_root.new.self c.set_root.result c.args.name.now c.args.to c.set_root.ensures.refused c.set_root.ensures.set c.set_root.ensures.err).0
