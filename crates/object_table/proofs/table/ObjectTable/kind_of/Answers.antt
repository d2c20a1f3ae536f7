use Rattle.std.proofs.Common.{sym, ◌∙◌}
use Rattle.object_table.proofs.Tables.{parts_in, table_with_name}
use Rattle.object_table.proofs.table.ObjectTable.kind_of.Goals as goal

pub invariant_of-self-2 : goal.invariant_of-self-2
invariant_of-self-2 c =
    rw c.in_ok-learn.ensures.seen (table_with_name (parts_in c.self.inside) c.self.invariant c.args.name.now (rw (← c.self.view_is) at (sym c.refusal_by_kind.ensures ∙ c.in_default.is))).0

pub returns-clause-seen : goal.returns-clause-seen
returns-clause-seen c =
    rw (← c.self.view_is, c.in_ok-learn.ensures.seen)
    (table_with_name (parts_in c.self.inside) c.self.invariant c.args.name.now
    (rw (← c.self.view_is) at (sym c.refusal_by_kind.ensures ∙ c.in_default.is))).1
