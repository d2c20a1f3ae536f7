use Rattle.std.proofs.Common.{◌≡◌, ◌+◌, ◌∙◌, length, unwrap_or, position, ap, subst, sym, arith}
use Rattle.std.specs.Str.{bytes_eq}
use Rattle.graph_meaning.specs.Step.{with_object}
use Rattle.object_table.specs.Parts.{TableParts, placed_of, IsTable, IsLaidOut}
use Rattle.object_table.specs.Placed.{TakesCell, NoneEmptyBelow}
use Rattle.object_table.proofs.Refusals.{alloc_fits, kind_fits, kind_number_fits}
use Rattle.object_table.proofs.Changes.{with_one, added_is, added_takes, added_lowest}
use Rattle.object_table.proofs.Tables.{parts_in, room_for_cell, table_with_one}
use Rattle.object_table.proofs.table.ObjectTable.add_object.Goals as goal
use Rattle.object_table.proofs.table.ObjectTable.add_object.Goals.{After-number-self-inside}

pub make-requires-clause-kind : goal.make-requires-clause-kind
make-requires-clause-kind c =
    let t = (placed_of (parts_in c.self.inside)).table in
    let fits = alloc_fits t c.args.id c.args.kind.now c.args.slots (rw (← c.self.view_is) at c.requires.fits) in
    let number = (rw (rw (← c.self.view_is) at c.requires.found, c.len.ensures.count) at c.unwrap_or-number.ensures) in
    omega (arith, number, kind_number_fits t c.args.kind.now c.self.invariant.sound.limits.kinds fits.allowed_kind)

pub make-requires-clause-slots : goal.make-requires-clause-slots
make-requires-clause-slots c =
    let fits = alloc_fits (placed_of (parts_in c.self.inside)).table c.args.id c.args.kind.now c.args.slots (rw (← c.self.view_is) at c.requires.fits) in
    omega (arith, fits.room_for_slots)

pub learn-requires-clause-room : goal.learn-requires-clause-room
learn-requires-clause-room c new =
    let fits = alloc_fits (placed_of (parts_in c.self.inside)).table c.args.id c.args.kind.now c.args.slots (rw (← c.self.view_is) at c.requires.fits) in
    kind_fits (placed_of (parts_in c.self.inside)).table c.args.kind.now fits.allowed_kind new

pub put-requires-clause-few : goal.put-requires-clause-few
put-requires-clause-few c =
    rw c.reserve.ensures.cells
    (room_for_cell (parts_in c.self.inside) c.self.invariant c.args.kind.now c.args.id c.unwrap_or-number.result c.args.slots
    (rw (rw (← c.self.view_is) at c.requires.found, c.len.ensures.count) at c.unwrap_or-number.ensures) (rw (← c.self.view_is) at c.requires.fits))

module _ (c : After-number-self-inside) where
  abbrev before : TableParts
  before = parts_in c.self.inside

  abbrev after : TableParts
  after = record {
    cells = c.put.new.self.cells;
    ids = c.push.new.self;
    roots = c.self.inside.roots;
    kinds = c.learn.new.self;
    greatest = c.number-self-inside.result;
    most = c.self.inside.most;
    slots = c.self.inside.slots + c.args.slots;
  }

  named : c.unwrap_or-number.result ≡ unwrap_or (position (bytes_eq c.args.kind.now) c.self.inside.kinds) (length c.self.inside.kinds)
  named = rw (rw (← c.self.view_is) at c.requires.found, c.len.ensures.count) at c.unwrap_or-number.ensures

  -- the parts with the object
  made : after ≡ with_one before c.self.invariant.laid c.args.kind.now c.args.id c.unwrap_or-number.result c.args.slots named
  made =
      rw (
        c.put.ensures,
        c.in_ok-push.ensures.last,
        c.next.ensures,
        c.in-Ok.ensures.seen,
        c.number-self-inside.ensures.value,
        c.in_ok-object.ensures,
        c.reserve.ensures.cells,
      )

  is_table : IsTable after
  is_table =
      subst IsTable (sym made)
      (table_with_one before c.self.invariant c.args.kind.now c.args.id c.unwrap_or-number.result c.args.slots named (rw (← c.self.view_is) at c.requires.fits))

  added : (placed_of after).table ≡ with_object (placed_of before).table c.args.id c.args.kind.now c.args.slots
  added =
      ap (λ q. (placed_of q).table) made
      ∙ added_is before c.self.invariant.laid c.args.kind.now c.args.id c.unwrap_or-number.result c.args.slots named

  takes : TakesCell (placed_of before) (placed_of after) c.args.id
  takes =
      subst (λ q. TakesCell (placed_of before) (placed_of q) c.args.id) (sym made)
      (added_takes before c.self.invariant.laid c.args.kind.now c.args.id c.unwrap_or-number.result c.args.slots named)

  lowest : NoneEmptyBelow (placed_of after) c.args.id
  lowest =
      subst (λ q. NoneEmptyBelow (placed_of q) c.args.id) (sym made)
      (added_lowest before c.self.invariant.laid c.args.kind.now c.args.id c.unwrap_or-number.result c.args.slots named (subst IsLaidOut made is_table.laid))

pub invariant_of-self-2 : goal.invariant_of-self-2
invariant_of-self-2 c = is_table (goal.at.invariant_of-self-2 c).After-number-self-inside

pub returns-clause-added : goal.returns-clause-added
returns-clause-added c = rw (← c.self.view_is) (added (goal.at.returns-clause-added c).After-number-self-inside)

pub returns-clause-cells : goal.returns-clause-cells
returns-clause-cells c = rw (← c.self.view_is) (takes (goal.at.returns-clause-cells c).After-number-self-inside)

pub returns-clause-lowest : goal.returns-clause-lowest
returns-clause-lowest c = lowest (goal.at.returns-clause-lowest c).After-number-self-inside
