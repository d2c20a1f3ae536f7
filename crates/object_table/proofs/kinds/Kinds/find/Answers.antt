use Rattle.std.proofs.Common.{◌≡◌, ◌∙◌, Some, ap, sym, arith, slice_get}
use Rattle.std.proofs.lemmas.Option.{slice_get-get_or}
use Rattle.std.proofs.lemmas.Slice.Eq.{bytes_eq-Decides}
use Rattle.object_table.proofs.Indexes.{named_place, no_place}
use Rattle.object_table.proofs.Positions.{position_named}
use Rattle.object_table.proofs.kinds.Kinds.find.Goals as goal

-- the name stands at the place that was guessed
pub returns-then-eq : goal.returns-then-eq
returns-then-eq c =
    let same : c.in-Some-get.guessed.now ≡ c.args.name.now =
    sym c.as_str.ensures.text ∙ (bytes_eq-Decides c.as_str.result.now c.as_str-in-Some-get.result.now).0 (sym c.if-eq.ensures) ∙ c.as_str-in-Some-get.ensures.text in
    let at : slice_get c.args.self.now c.in-Some.guess ≡ Some c.in-Some-get.guessed.now =
    grind (arith, slice_get-get_or c.deref.result.now c.in-Some.guess c.in-Some-get.guessed.now, c.in-Some-get.ensures.lookup, c.deref.ensures.value, c.self.view_is) in
    sym (position_named c.args.self.now c.in-Some.guess c.args.name.now (rw (← c.self.view_is) c.self.invariant.distinct) (at ∙ ap Some same))

-- a search found it among the entries
pub returns-in-Ok : goal.returns-in-Ok
returns-in-Ok c =
    rw (← c.self.view_is, c.number.ensures)
    (sym (named_place c.self.inside.names.items c.self.inside.places c.self.invariant c.args.name.now c.in-Ok.place c.at.result.now c.in-Ok.ensures.in_range c.in-Ok.ensures.found c.at.ensures))

pub returns-in-Err : goal.returns-in-Err
returns-in-Err c =
    rw (← c.self.view_is)
    (sym (no_place c.self.inside.names.items c.self.inside.places c.self.invariant c.args.name.now c.in-Err.field-0 c.in-Err.ensures.in_range c.in-Err.ensures.gap))
