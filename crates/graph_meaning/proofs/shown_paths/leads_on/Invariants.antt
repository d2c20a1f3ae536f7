use Rattle.std.proofs.Common.{◌≡◌, drop}
use Rattle.graph_meaning.specs.Views.{leads_on}
use Rattle.graph_meaning.proofs.shown_paths.leads_on.Given as goal

-- what is left to be seen of the steps leads on from the object that the last one led to
abbrev pub invariant-loop-step : goal.invariant-loop-step
invariant-loop-step l = leads_on l.heap l.start l.steps ≡ leads_on l.heap l.holder (drop l.step-index l.steps)
