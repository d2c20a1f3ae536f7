use Rattle.std.proofs.Common.{sym, Ok, Err}
use Rattle.graph_meaning.specs.declared.refusal.Stop.TheVariants.{Refused}
use Rattle.heap_parts.proofs.Operations.{steps-store}
use Rattle.heap_parts.proofs.Stepping.{handed_on, parts_in}
use Rattle.heap_parts.proofs.parts.HeapParts.store.Goals as goal

pub returns : goal.returns
returns c =
    let s = parts_in c.self.inside in
    rw (← c.self.view_is)
    (steps-store s c.self.invariant c.store.new.self (Ok tt) c.args.at c.args.slot c.args.to (sym c.in_ok-store.ensures.refused) c.in_ok-store.ensures.stored tt).0

pub invariant_of-self-2 : goal.invariant_of-self-2
invariant_of-self-2 c =
    let s = parts_in c.self.inside in
    (steps-store {T = Unit {0}} s c.self.invariant c.store.new.self (Ok tt) c.args.at c.args.slot c.args.to (sym c.in_ok-store.ensures.refused) c.in_ok-store.ensures.stored tt).1

pub returns-in_err-store : goal.returns-in_err-store
returns-in_err-store c =
    let s = parts_in c.self.inside in
    rw (← c.self.view_is, handed_on c.from_residual.result (Refused c.in_err-store.field-0.0) c.from_residual.ensures)
    (steps-store s c.self.invariant c.store.new.self (Err (Refused c.in_err-store.field-0.0)) c.args.at c.args.slot c.args.to (sym c.in_err-store.ensures.refused) tt c.in_err-store.ensures.err).0
