use Rattle.std.proofs.Common.{◌&&◌, ◌+◌, drop, sym, ap, ◌∙◌}
use Rattle.graph_meaning.specs.Views.{leads_on}
use Rattle.graph_meaning.proofs.Showing.{leads_on-drop, leads_on-end}
use Rattle.graph_meaning.proofs.shown_paths.leads_on.Goals as goal

pub returns-then-not-goes_by : goal.returns-then-not-goes_by
returns-then-not-goes_by c =
    let v = c.args.heap.now in
    let rest = leads_on v c.step-item.result.id (drop (c.loop-step.step-index + 1) c.args.steps.now) in
    let next = leads_on-drop v c.loop-step.holder c.args.steps.now c.loop-step.step-index c.step-item.result c.loop-step-test.true (sym c.step-item.is) in
    sym (c.loop-step.invariant ∙ next ∙ ap (λ b. b && rest) (sym c.goes_by.ensures ∙ c.if-not-goes_by.true))

pub loop-step-preserved : goal.loop-step-preserved
loop-step-preserved c =
    let v = c.args.heap.now in
    let rest = leads_on v c.step-item.result.id (drop (c.loop-step.step-index + 1) c.args.steps.now) in
    let next = leads_on-drop v c.loop-step.holder c.args.steps.now c.loop-step.step-index c.step-item.result c.loop-step-test.true (sym c.step-item.is) in
    c.loop-step.invariant ∙ next ∙ ap (λ b. b && rest) (sym c.goes_by.ensures ∙ c.if-not-goes_by.false)

pub returns : goal.returns
returns c =
    sym (c.loop-step.invariant ∙ leads_on-end c.args.heap.now c.loop-step.holder c.args.steps.now c.loop-step.step-index c.loop-step-test.false)
