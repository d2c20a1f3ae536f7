use Rattle.std.proofs.Common.{◌∙◌, ap, rules, cond}
use Rattle.std.specs.List.{insert}
use Rattle.std.proofs.lemmas.List.Sorted.{answers_always}
use Rattle.minor_gc.proofs.Lists.{put_searched, not_found}
use Rattle.minor_gc.proofs.tally.put.Goals as goal

pub returns-in-Err-clause-list : goal.returns-in-Err-clause-list
returns-in-Err-clause-list c ids was is rise has same fails passes list =
    let at = rw (c.deref.ensures.value, c.number.ensures.value) at (c.in-Err.ensures.position (λ id. id) (answers_always _ _ _ (λ f a r g called. search rules))) in
    c.insert.ensures.items
    ∙ ap (λ b. cond b (insert c.args.remembered.now.items c.in-Err.place c.args.id) c.args.remembered.now.items) (c.insert.ensures.succeeds c.requires.room)
    ∙ put_searched c.args.id was is same ids rise has c.args.remembered.now.items list c.in-Err.place fails passes at

pub returns-in_default-clause-list : goal.returns-in_default-clause-list
returns-in_default-clause-list c ids was is rise has same fails passes list =
    let at = rw (c.deref.ensures.value, c.number.ensures.value) at (c.in_default.ensures.position (λ id. id) (answers_always _ _ _ (λ f a r g called. search rules))) in
    absurd (not_found c.args.id was is same ids rise has c.args.remembered.now.items list c.in_default.field-0 fails at)
