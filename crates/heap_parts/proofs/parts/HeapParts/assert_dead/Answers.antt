use Rattle.std.proofs.Common.{sym, Ok, Err, refl}
use Rattle.graph_meaning.specs.declared.refusal.Stop.TheVariants.{Refused, OutOfMemory}
use Rattle.heap_parts.proofs.Operations.{steps-assert_dead}
use Rattle.heap_parts.proofs.Stepping.{handed_on, parts_in}
use Rattle.heap_parts.proofs.parts.HeapParts.assert_dead.Goals as goal

pub returns-in-Some : goal.returns-in-Some
returns-in-Some c =
    let s = parts_in c.self.inside in
    rw (← c.self.view_is)
    (steps-assert_dead s c.self.invariant s.assertions (Err (Refused c.in-Some.refusal)) c.args.id (sym c.in-Some.ensures) tt refl).0

pub returns-in_err-assert_dead : goal.returns-in_err-assert_dead
returns-in_err-assert_dead c =
    let s = parts_in c.self.inside in
    rw (← c.self.view_is, handed_on c.from_residual.result OutOfMemory c.from_residual.ensures)
    (steps-assert_dead s c.self.invariant c.assert_dead.new.self (Err OutOfMemory) c.args.id (sym c.in_default.ensures) tt c.in_err-assert_dead.ensures.err).0

pub invariant_of-self-2 : goal.invariant_of-self-2
invariant_of-self-2 c =
    let s = parts_in c.self.inside in
    (steps-assert_dead {T = Unit {0}} s c.self.invariant c.assert_dead.new.self (Ok tt) c.args.id (sym c.in_default.ensures) c.in_ok-assert_dead.ensures.done tt).1

pub returns : goal.returns
returns c =
    let s = parts_in c.self.inside in
    rw (← c.self.view_is)
    (steps-assert_dead s c.self.invariant c.assert_dead.new.self (Ok tt) c.args.id (sym c.in_default.ensures) c.in_ok-assert_dead.ensures.done tt).0
