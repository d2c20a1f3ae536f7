use Rattle.std.proofs.Common.{◌≡◌, [], ◌∷◌, ◌++◌, ap, sym, ◌∙◌}
use Rattle.std.proofs.lemmas.List.{append_assoc, append-nil}
use Rattle.verdict_list.proofs.over_limit.values.Goals as goal

pub loop-number-init : goal.loop-number-init
loop-number-init c = rw (c.in_ok-values.ensures.items, c.into_iter-number-iterator.ensures.into_iter_gives) c.values-number-items.ensures.rest

pub loop-number-preserved : goal.loop-number-preserved
loop-number-preserved c =
    let first : c.loop-number.number-iterator ≡ c.in-Some.number.now ∷ c.next.new.self = c.in-Some.ensures.steps in
    rw c.in_ok-push.ensures.items
    (append_assoc c.loop-number.values.items (c.in-Some.number.now ∷ []) c.next.new.self ∙ ap (λ rest. c.loop-number.values.items ++ rest) (sym first) ∙ c.loop-number.invariant)

pub returns : goal.returns
returns c = sym (append-nil c.loop-number.values.items) ∙ ap (λ rest. c.loop-number.values.items ++ rest) (sym c.in-None.ensures.steps.0) ∙ c.loop-number.invariant
