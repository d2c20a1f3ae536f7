use Rattle.std.proofs.Common.{◌∷◌, ◌++◌, [], cond, sym, ap, ◌∙◌, refl}
use Rattle.graph_meaning.specs.declared.paths.PathStep.{PathStep}
use Rattle.graph_meaning.specs.Roles.{id_at}
use Rattle.path_cert.specs.Steps.{step_to}
use Rattle.path_cert.proofs.ShownSteps.{HasShown-more}
use Rattle.path_cert.proofs.trail.Trail.take.Goals as goal

pub returns-in_ok-push-clause-taken : goal.returns-in_ok-push-clause-taken
returns-in_ok-push-clause-taken c after has =
    let step = step_to c.args.table.now.table (c.args.slot, id_at c.args.table.now.cells c.args.cell) in
    let old = c.args.self.now.shown.items in
    let kept = c.in_ok-push.ensures.items ∙ ap (λ (s : PathStep). old ++ s ∷ []) c.in_ok-step.ensures ∙ sym (ap (λ b. cond b (old ++ step ∷ []) old) (sym c.is_shown.ensures ∙ c.if-is_shown.true)) in
    HasShown-more c.args.self.now (record { total = c.args.self.now.total; shown = c.push.new.self }) c.args.number step after refl kept has

pub returns-else-is_shown-clause-taken : goal.returns-else-is_shown-clause-taken
returns-else-is_shown-clause-taken c after has =
    let step = step_to c.args.table.now.table (c.args.slot, id_at c.args.table.now.cells c.args.cell) in
    let old = c.args.self.now.shown.items in
    let kept = sym (ap (λ b. cond b (old ++ step ∷ []) old) (sym c.is_shown.ensures ∙ c.if-is_shown.false)) in
    HasShown-more c.args.self.now c.args.self.now c.args.number step after refl kept has
