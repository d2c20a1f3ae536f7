use Rattle.std.proofs.Common.{ℕ, cond, [], ◌∷◌, ◌++◌, take, filter, get_or, sym, ap, ◌∙◌}
use Rattle.std.specs.Option.{is_some}
use Rattle.std.proofs.lemmas.List.{append-nil, take_all}
use Rattle.std.proofs.lemmas.List.Elements.{filter_more}
use Rattle.path_cert.specs.Levels.{level_in}
use Rattle.verdict_list.proofs.unowned.with_level.Goals as goal
use Rattle.verdict_list.proofs.unowned.with_level.Goals.{then-is_some+in_ok-push, else-is_some}

pub level-requires : goal.level-requires
level-requires c = c.requires.ownees c.loop-ownee.ownee-index 0 c.loop-ownee-test.true

pub loop-ownee-preserved : goal.loop-ownee-preserved
loop-ownee-preserved c =
    let ownees = c.args.ownees.now in
    let i = c.loop-ownee.ownee-index in
    let ownee = get_or c.args.ownees.now c.loop-ownee.ownee-index 0 in
    let is_met = λ (x : ℕ). is_some (level_in c.args.levels.now x) in
    let before = filter is_met (take i ownees) in
    let more = filter_more is_met ownees i 0 c.loop-ownee-test.true in
    let test = ap is_some (sym c.level.ensures) ∙ sym c.is_some.ensures in
    elim c.if-is_some.branch [
      | then-is_some+in_ok-push w ↦
          rw w.met-is (w.in_ok-push.ensures.items ∙ ap (λ xs. xs ++ ownee ∷ []) c.loop-ownee.invariant
          ∙ ap (λ b. before ++ cond b (ownee ∷ []) []) (sym (test ∙ w.if-is_some.true)) ∙ sym more)
      | else-is_some w ↦
          rw w.met-is (c.loop-ownee.invariant ∙ sym (append-nil before) ∙ ap (λ b. before ++ cond b (ownee ∷ []) []) (sym (test ∙ w.if-is_some.false)) ∙ sym more)
    ]

pub returns : goal.returns
returns c = record {
  met = c.loop-ownee.invariant ∙ ap (filter (λ ownee. is_some (level_in c.args.levels.now ownee))) (take_all c.loop-ownee.ownee-index c.args.ownees.now c.loop-ownee-test.false);
}
