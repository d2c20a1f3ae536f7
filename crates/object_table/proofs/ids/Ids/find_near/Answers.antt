use Rattle.std.proofs.Common.{ℕ, Some, rules, refl, sym, ap, ◌∙◌}
use Rattle.std.proofs.lemmas.List.Sorted.{answers_always}
use Rattle.object_table.proofs.Lookups.{searched_some, searched_none}
use Rattle.object_table.proofs.ids.Ids.find_near.Goals as goal

-- the entry that was found has the id
pub returns-in-Ok : goal.returns-in-Ok
returns-in-Ok c =
    let equal = c.in-Ok.ensures.position (λ e. e.0) (answers_always _ _ _ (λ f a r g called. search rules)) in
    sym (sym c.near-near.ensures.same
    ∙ searched_some c.near-near.result.now c.near-near.result.now c.args.number c.args.number c.in-Ok.place c.index-near-place.result refl
    refl c.near-near.ensures.rising c.in-Ok.ensures.bound equal c.index-near-place.is
    ∙ ap (λ (e : ℕ × ℕ). Some e.1) c.index-near-place.is)

-- where none was found, none has it
pub returns-in-Err : goal.returns-in-Err
returns-in-Err c =
    let parted = c.in-Err.ensures.position (λ e. e.0) (answers_always _ _ _ (λ f a r g called. search rules)) in
    sym (sym c.near-near.ensures.same
    ∙ searched_none c.near-near.result.now c.near-near.result.now c.args.number c.args.number c.in-Err.field-0 refl refl c.near-near.ensures.rising parted)
