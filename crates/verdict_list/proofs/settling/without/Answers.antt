use Rattle.std.proofs.Common.{ℕ, cond, [], ◌∷◌, ◌++◌, not, take, filter, get_or, sym, ap, ◌∙◌}
use Rattle.std.proofs.lemmas.List.{append-nil, take_all}
use Rattle.std.proofs.lemmas.List.Elements.{filter_more}
use Rattle.verdict_list.specs.Settling.{flag_of}
use Rattle.verdict_list.proofs.settling.without.Goals as goal
use Rattle.verdict_list.proofs.settling.without.Goals.{then-not-found-ownee+in_ok-push, else-not-found-ownee}

pub bounds-found-ownee : goal.bounds-found-ownee
bounds-found-ownee c = c.requires c.loop-ownee.ownee-index 0 c.loop-ownee-test.true

pub loop-ownee-preserved : goal.loop-ownee-preserved
loop-ownee-preserved c =
    let ownees = c.args.ownees.now in
    let i = c.loop-ownee.ownee-index in
    let ownee = get_or c.args.ownees.now c.loop-ownee.ownee-index 0 in
    let is_other = λ (x : ℕ). not (flag_of c.args.found.now x) in
    let before = filter is_other (take i ownees) in
    let more = filter_more is_other ownees i 0 c.loop-ownee-test.true in
    elim c.if-not-found-ownee.branch [
      | then-not-found-ownee+in_ok-push w ↦
          rw w.others-is (w.in_ok-push.ensures.items ∙ ap (λ xs. xs ++ ownee ∷ []) c.loop-ownee.invariant
          ∙ ap (λ b. before ++ cond b (ownee ∷ []) []) (sym (ap not w.if-not-found-ownee.true)) ∙ sym more)
      | else-not-found-ownee w ↦
          rw w.others-is (c.loop-ownee.invariant ∙ sym (append-nil before)
          ∙ ap (λ b. before ++ cond b (ownee ∷ []) []) (sym (ap not w.if-not-found-ownee.false)) ∙ sym more)
    ]

pub returns : goal.returns
returns c = c.loop-ownee.invariant ∙ ap (filter (λ ownee. not (flag_of c.args.found.now ownee))) (take_all c.loop-ownee.ownee-index c.args.ownees.now c.loop-ownee-test.false)
