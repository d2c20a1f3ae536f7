use Rattle.std.proofs.Common.{sym, ◌∙◌}
use Rattle.object_table.proofs.Housing.{next_some, next_none}
use Rattle.object_table.proofs.cells.Cells.next.Goals as goal

pub returns-in-Some : goal.returns-in-Some
returns-in-Some c = rw (← c.self.view_is) (next_some c.self.inside.pages.cells c.self.inside.first_empty c.in-Some.cell c.self.invariant c.in-Some.is).0

pub returns-in-None : goal.returns-in-None
returns-in-None c = rw (← c.self.view_is) (c.len.ensures ∙ sym (next_none c.self.inside.pages.cells c.self.inside.first_empty c.self.invariant c.in-None.is))
