use Rattle.object_table.proofs.Named.{IsOrdered-remove, remove_is, remove_none}
use Rattle.object_table.proofs.roots.Roots.remove.Goals as goal

pub invariant_of-self : goal.invariant_of-self
invariant_of-self c = rw (c.remove.ensures, c.self.view_is) (IsOrdered-remove c.args.self.now c.in-Ok.place c.in-Ok.ensures.ordered c.in-Ok.ensures.in_range)

-- the root with the name is taken away
pub returns-in-Ok : goal.returns-in-Ok
returns-in-Ok c = rw (c.remove.ensures, c.self.view_is) (remove_is c.args.self.now c.args.name.now c.in-Ok.place c.in-Ok.ensures.ordered c.in-Ok.ensures.in_range c.in-Ok.ensures.found)

-- no root has it
pub returns-in_default : goal.returns-in_default
returns-in_default c = remove_none c.args.self.now c.args.name.now c.in_default.field-0 c.in_default.ensures.in_range c.in_default.ensures.gap
