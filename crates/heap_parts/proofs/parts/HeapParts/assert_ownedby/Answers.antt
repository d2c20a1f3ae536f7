use Rattle.std.proofs.Common.{sym, refl, Err}
use Rattle.graph_meaning.specs.declared.refusal.Stop.TheVariants.{Refused}
use Rattle.heap_parts.proofs.Operations.{steps-assert_ownedby, refused_owner, refused_ownee, refused_self}
use Rattle.heap_parts.proofs.Stepping.{parts_in}
use Rattle.heap_parts.proofs.parts.HeapParts.assert_ownedby.Goals as goal

pub returns-in-Some : goal.returns-in-Some
returns-in-Some c =
    let s = parts_in c.self.inside in
    rw (← c.self.view_is)
    (steps-assert_ownedby s c.self.invariant s.assertions (Err (Refused c.in-Some.refusal)) c.args.owner c.args.ownee
    (refused_owner s.placed.table c.args.owner c.args.ownee c.in-Some.refusal (sym c.in-Some.ensures)) tt refl).0

pub returns-in-Some-not_live : goal.returns-in-Some-not_live
returns-in-Some-not_live c =
    let s = parts_in c.self.inside in
    rw (← c.self.view_is)
    (steps-assert_ownedby s c.self.invariant s.assertions (Err (Refused c.in-Some-not_live.refusal)) c.args.owner c.args.ownee
    (refused_ownee s.placed.table c.args.owner c.args.ownee c.in-Some-not_live.refusal (sym c.in_default.ensures) (sym c.in-Some-not_live.ensures))
    tt refl).0

pub invariant_of-self : goal.invariant_of-self
invariant_of-self c =
    let s = parts_in c.self.inside in
    (steps-assert_ownedby s c.self.invariant c.assert_ownedby.new.self c.assert_ownedby.result c.args.owner c.args.ownee
    (refused_self s.placed.table c.args.owner c.args.ownee c.assert_ownedby.result (sym c.in_default.ensures) (sym c.in_default-not_live.ensures)
    c.assert_ownedby.ensures.refused) c.assert_ownedby.ensures.done c.assert_ownedby.ensures.err).1

pub returns : goal.returns
returns c =
    let s = parts_in c.self.inside in
    rw (← c.self.view_is)
    (steps-assert_ownedby s c.self.invariant c.assert_ownedby.new.self c.assert_ownedby.result c.args.owner c.args.ownee
    (refused_self s.placed.table c.args.owner c.args.ownee c.assert_ownedby.result (sym c.in_default.ensures) (sym c.in_default-not_live.ensures)
    c.assert_ownedby.ensures.refused) c.assert_ownedby.ensures.done c.assert_ownedby.ensures.err).0
