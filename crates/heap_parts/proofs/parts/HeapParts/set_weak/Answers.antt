use Rattle.std.proofs.Common.{sym, Ok, Err}
use Rattle.graph_meaning.specs.declared.refusal.Stop.TheVariants.{Refused}
use Rattle.heap_parts.proofs.Operations.{steps-set_weak}
use Rattle.heap_parts.proofs.Stepping.{handed_on, parts_in}
use Rattle.heap_parts.proofs.parts.HeapParts.set_weak.Goals as goal

pub returns-in_err-set_weak : goal.returns-in_err-set_weak
returns-in_err-set_weak c =
    let s = parts_in c.self.inside in
    let refusal = c.in_err-set_weak.field-0.0 in
    rw (← c.self.view_is, handed_on c.from_residual.result (Refused refusal) c.from_residual.ensures)
    (steps-set_weak s c.self.invariant c.set_weak.new.self (Err (Refused refusal)) c.args.at c.args.slot c.args.weak (sym c.in_err-set_weak.ensures.refused) tt c.in_err-set_weak.ensures.err).0

pub invariant_of-self-2 : goal.invariant_of-self-2
invariant_of-self-2 c =
    let s = parts_in c.self.inside in
    (steps-set_weak {T = Unit {0}} s c.self.invariant c.set_weak.new.self (Ok tt) c.args.at c.args.slot c.args.weak (sym c.in_ok-set_weak.ensures.refused) c.in_ok-set_weak.ensures.changed tt).1

pub returns : goal.returns
returns c =
    let s = parts_in c.self.inside in
    rw (← c.self.view_is)
    (steps-set_weak s c.self.invariant c.set_weak.new.self (Ok tt) c.args.at c.args.slot c.args.weak (sym c.in_ok-set_weak.ensures.refused) c.in_ok-set_weak.ensures.changed tt).0
