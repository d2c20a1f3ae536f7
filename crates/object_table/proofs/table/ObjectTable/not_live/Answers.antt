use Rattle.std.proofs.Common.{Some, None, sym, ◌∙◌}
use Rattle.object_table.proofs.Tables.{parts_in, not_live-found}
use Rattle.object_table.proofs.table.ObjectTable.not_live.Goals as goal

pub returns-in-Some : goal.returns-in-Some
returns-in-Some c = rw (← c.self.view_is) (sym (not_live-found (parts_in c.self.inside) c.self.invariant c.args.id (Some c.in-Some.field-0) (sym c.in-Some.is ∙ c.find.ensures)))

pub returns-in-None : goal.returns-in-None
returns-in-None c = rw (← c.self.view_is, c.number.ensures.value) (sym (not_live-found (parts_in c.self.inside) c.self.invariant c.args.id None (sym c.in-None.is ∙ c.find.ensures)))
