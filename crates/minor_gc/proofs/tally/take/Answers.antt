use Rattle.std.proofs.Common.{◌∙◌, rules}
use Rattle.std.proofs.lemmas.List.Sorted.{answers_always}
use Rattle.minor_gc.proofs.Lists.{take_searched, is_found}
use Rattle.minor_gc.proofs.tally.take.Goals as goal

pub returns-in-Ok-clause-list : goal.returns-in-Ok-clause-list
returns-in-Ok-clause-list c ids was is rise has same passes fails list =
    let at = rw (c.deref.ensures.value, c.number.ensures.value) at (c.in-Ok.ensures.position (λ id. id) (answers_always _ _ _ (λ f a r g called. search rules))) in
    c.remove.ensures.items ∙ take_searched c.args.id was is same ids rise has c.args.remembered.now.items list c.in-Ok.place passes fails at

pub returns-in_default-clause-list : goal.returns-in_default-clause-list
returns-in_default-clause-list c ids was is rise has same passes fails list =
    let at = rw (c.deref.ensures.value, c.number.ensures.value) at (c.in_default.ensures.position (λ id. id) (answers_always _ _ _ (λ f a r g called. search rules))) in
    absurd (is_found c.args.id was is same ids rise has c.args.remembered.now.items list c.in_default.field-0 passes at)
