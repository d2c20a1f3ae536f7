use Rattle.std.proofs.Common.{Some, None, is_some, sym, ap, ◌∙◌, arith}
use Rattle.object_table.specs.Parts.{placed_of}
use Rattle.object_table.proofs.ObjectsByCell.{held-within}
use Rattle.object_table.proofs.Parts.{stands_found, id_in-held, is_placed}
use Rattle.object_table.proofs.Tables.{parts_in, not_live-found}
use Rattle.object_table.proofs.table.ObjectTable.target_cell.Goals as goal

pub returns-in-None-clause-refused : goal.returns-in-None-clause-refused
returns-in-None-clause-refused c =
    rw (← c.self.view_is, c.in-Some.is, c.number.ensures.value) (sym (not_live-found (parts_in c.self.inside) c.self.invariant c.in-Some.id None (sym c.in-None.is ∙ c.find.ensures)))

pub returns-in-Some-find-clause-refused : goal.returns-in-Some-find-clause-refused
returns-in-Some-find-clause-refused c =
    rw (← c.self.view_is, c.in-Some.is) (sym (not_live-found (parts_in c.self.inside) c.self.invariant c.in-Some.id (Some c.in-Some-find.cell) (sym c.in-Some-find.is ∙ c.find.ensures)))

pub returns-in-Some-find-clause-holds : goal.returns-in-Some-find-clause-holds
returns-in-Some-find-clause-holds c =
    rw (← c.self.view_is, c.in-Some.is)
    (id_in-held (parts_in c.self.inside) c.self.invariant.laid c.in-Some-find.cell
    ∙ stands_found (parts_in c.self.inside) c.self.invariant.laid c.in-Some.id c.in-Some-find.cell (sym c.find.ensures ∙ c.in-Some-find.is))

pub returns-in-Some-find-clause-taken : goal.returns-in-Some-find-clause-taken
returns-in-Some-find-clause-taken c =
    rw (← c.self.view_is)
    (ap is_some
    (id_in-held (parts_in c.self.inside) c.self.invariant.laid c.in-Some-find.cell
    ∙ stands_found (parts_in c.self.inside) c.self.invariant.laid c.in-Some.id c.in-Some-find.cell (sym c.find.ensures ∙ c.in-Some-find.is)))

pub returns-in-Some-find-clause-few : goal.returns-in-Some-find-clause-few
returns-in-Some-find-clause-few c =
    let at =
    id_in-held (parts_in c.self.inside) c.self.invariant.laid c.in-Some-find.cell
    ∙ stands_found (parts_in c.self.inside) c.self.invariant.laid c.in-Some.id c.in-Some-find.cell (sym c.find.ensures ∙ c.in-Some-find.is) in
    let within = held-within (placed_of (parts_in c.self.inside)) c.in-Some-find.cell c.in-Some.id at in
    omega (arith, within, (is_placed (parts_in c.self.inside) c.self.invariant.laid).few)
