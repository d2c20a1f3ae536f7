use Rattle.std.proofs.Common.{sym, ap, ◌∙◌}
use Rattle.std.specs.Option.{is_some}
use Rattle.heap_parts.proofs.Cleared.{left_without, none_cleared, by_force_cleared}
use Rattle.heap_parts.proofs.parts.HeapParts.finish.Goals as goal

pub returns-in-None-clause-left : goal.returns-in-None-clause-left
returns-in-None-clause-left c = λ rules force.
    left_without c.args.self.now.heap c.sweep.new.self.heap c.sweep.ensures.left rules (force ∙ ap is_some c.in-None.is)

pub returns-in-None-clause-cleared : goal.returns-in-None-clause-cleared
returns-in-None-clause-cleared c = λ rules force. sym (none_cleared c.args.self.now.heap rules (force ∙ ap is_some c.in-None.is))

pub returns-in-Some-clause-left : goal.returns-in-Some-clause-left
returns-in-Some-clause-left c = λ rules force. c.sweep_by_force.ensures.left rules (force ∙ ap is_some c.in-Some.is)

pub returns-in-Some-clause-cleared : goal.returns-in-Some-clause-cleared
returns-in-Some-clause-cleared c = λ rules force.
    c.sweep_by_force.ensures.cleared ∙ sym (by_force_cleared c.args.self.now.heap rules (force ∙ ap is_some c.in-Some.is))
