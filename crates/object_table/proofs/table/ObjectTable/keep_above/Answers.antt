use Rattle.std.proofs.Common.{◌≡◌, ◌-◌, ℕ, arith}
use Rattle.std.specs.Option.{option_map}
use Rattle.std.proofs.lemmas.List.{length-map}
use Rattle.object_table.specs.Residents.{Resident, held_at, held_after}
use Rattle.object_table.proofs.Changes.{kept_is, kept_keeps}
use Rattle.object_table.proofs.KeptLater.{all_kept, in_order, held_is_after, freed_fits, slots_left}
use Rattle.object_table.proofs.Tables.{parts_in, table_kept}
use Rattle.object_table.proofs.table.ObjectTable.keep_above.Goals as goal

pub free_from-freed-requires-clause-stacked : goal.free_from-freed-requires-clause-stacked
free_from-freed-requires-clause-stacked c =
    in_order (parts_in c.self.inside) c.self.invariant c.args.kept.now c.args.number c.first_above-first.result c.first_above-first.ensures.before
    c.first_above-first.ensures.after c.first_above-first.ensures.bound (rw (← c.self.view_is) at c.requires.others)
    (rw (← c.self.view_is) at c.requires.stacked) (rw (← c.self.view_is) at c.requires.held)

pub keep_from-requires-clause-earlier : goal.keep_from-requires-clause-earlier
keep_from-requires-clause-earlier c =
    all_kept (parts_in c.self.inside) c.self.invariant c.args.kept.now c.args.number c.first_above-first.result c.first_above-first.ensures.before
    c.first_above-first.ensures.after c.first_above-first.ensures.bound (rw (← c.self.view_is) at c.requires.others)
    (rw (← c.self.view_is) at c.requires.stacked) (rw (← c.self.view_is) at c.requires.held)

pub overflow_sub-self : goal.overflow_sub-self
overflow_sub-self c =
    freed_fits (parts_in c.self.inside) c.self.invariant c.args.kept.now c.args.number c.first_above-first.result c.first_above-first.ensures.before
    c.first_above-first.ensures.after c.first_above-first.ensures.bound (rw (← c.self.view_is) at c.requires.others)
    (rw (← c.self.view_is) at c.requires.stacked) (rw (← c.self.view_is) at c.requires.held) c.free_from-freed.new.cells.cells
    c.free_from-freed.ensures.freed c.free_from-freed.result c.free_from-freed.ensures.slots

pub invariant_of-self : goal.invariant_of-self
invariant_of-self c =
    let after : (cell : ℕ) → held_at c.free_from-freed.new.cells.cells cell ≡ held_after c.args.kept.now c.self.inside.cells.cells cell =
    held_is_after (parts_in c.self.inside) c.self.invariant c.args.kept.now c.args.number c.first_above-first.result
    c.first_above-first.ensures.before c.first_above-first.ensures.after c.first_above-first.ensures.bound
    (rw (← c.self.view_is) at c.requires.others) (rw (← c.self.view_is) at c.requires.stacked) (rw (← c.self.view_is) at c.requires.held)
    c.free_from-freed.new.cells.cells c.free_from-freed.ensures.freed in
    rw c.keep_from.ensures
    (table_kept (parts_in c.self.inside) c.self.invariant c.args.kept.now c.free_from-freed.new.cells.cells (omega (arith, c.free_from-freed.ensures.count))
    after (rw (← c.self.view_is) at c.requires.closed) (c.self.inside.slots - c.free_from-freed.result)
    (slots_left (parts_in c.self.inside) c.self.invariant c.args.kept.now c.args.number c.first_above-first.result c.first_above-first.ensures.before
    c.first_above-first.ensures.after c.first_above-first.ensures.bound (rw (← c.self.view_is) at c.requires.others)
    (rw (← c.self.view_is) at c.requires.stacked) (rw (← c.self.view_is) at c.requires.held) c.free_from-freed.new.cells.cells
    c.free_from-freed.ensures.freed c.free_from-freed.result c.free_from-freed.ensures.slots))

pub returns : goal.returns
returns c =
    let after : (cell : ℕ) → held_at c.free_from-freed.new.cells.cells cell ≡ held_after c.args.kept.now c.self.inside.cells.cells cell =
    held_is_after (parts_in c.self.inside) c.self.invariant c.args.kept.now c.args.number c.first_above-first.result
    c.first_above-first.ensures.before c.first_above-first.ensures.after c.first_above-first.ensures.bound
    (rw (← c.self.view_is) at c.requires.others) (rw (← c.self.view_is) at c.requires.stacked) (rw (← c.self.view_is) at c.requires.held)
    c.free_from-freed.new.cells.cells c.free_from-freed.ensures.freed in
    record {
      kept =
          rw (← c.self.view_is, c.keep_from.ensures)
          (kept_is (parts_in c.self.inside) c.self.invariant.laid c.args.kept.now c.free_from-freed.new.cells.cells after
          (c.self.inside.slots - c.free_from-freed.result));
      cells =
          rw (← c.self.view_is, c.keep_from.ensures)
          (kept_keeps (parts_in c.self.inside) c.self.invariant.laid c.args.kept.now c.free_from-freed.new.cells.cells after
          (c.self.inside.slots - c.free_from-freed.result) (omega (arith, c.free_from-freed.ensures.count)));
      count =
          rw (← c.self.view_is)
          (omega (
            arith,
            c.free_from-freed.ensures.count,
            length-map c.free_from-freed.new.cells.cells (option_map (λ (o : Resident). o.id)),
            length-map c.self.inside.cells.cells (option_map (λ (o : Resident). o.id)),
          ));
    }
