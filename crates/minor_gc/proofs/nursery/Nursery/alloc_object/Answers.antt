use Rattle.std.proofs.Common.{◌≡◌, false, None, length, get_or, sym, ap, ◌∙◌, arith}
use Rattle.std.specs.Vec.{vec_capacity}
use Rattle.graph_meaning.specs.Step.{alloc_refusal}
use Rattle.minor_gc.specs.Marks.{Marks}
use Rattle.minor_gc.proofs.Added.{NewObject, AddedParts, Adds, added, young_then, one_more}
use Rattle.minor_gc.proofs.Inside.{parts_in}
use Rattle.minor_gc.proofs.nursery.Nursery.alloc_object.Goals as goal
use Rattle.minor_gc.proofs.nursery.Nursery.alloc_object.Goals.{After-add_cells}

pub prove-unreachable-requires : goal.prove-unreachable-requires
prove-unreachable-requires c = omega (arith, c.cells.ensures.count, c.cells.ensures.placed.few)

pub add_cells-requires-clause-each : goal.add_cells-requires-clause-each
add_cells-requires-clause-each c =
    ap (λ (m : Marks). length m.marks) c.reserve_one.ensures.search ∙ c.self.invariant.each_mark ∙ sym c.self.invariant.each_count ∙ sym (ap (λ l. length l) c.reserve_one.ensures.counts)

pub add_cells-requires-clause-one : goal.add_cells-requires-clause-one
add_cells-requires-clause-one c =
    let more = one_more c.self.inside.table in
    let long = ap (λ l. length l) c.reserve_one.ensures.counts in
    let count = c.in_ok-alloc_object.ensures.cells.count in (
      omega (arith, more.0, long, c.self.invariant.each_count, c.cells-cells.ensures.count, count),
      omega (arith, more.1, long, c.self.invariant.each_count, c.cells-cells.ensures.count, count),
    )

module _ (c : After-add_cells) where
  abbrev object : NewObject
  object = record { id = c.args.id; kind = c.args.kind.now; slots = c.args.slots }

  allowed : alloc_refusal c.self.inside.table.table c.args.id c.args.kind.now c.args.slots ≡ None
  allowed = sym c.alloc_refusal.ensures.refusal ∙ c.in_default.is

  abbrev after : AddedParts
  after = record {
    placed = c.alloc_object.new.self;
    remembered = c.reserve_one.new.remembered.items;
    room = vec_capacity c.reserve_one.new.remembered;
    marks = c.add_cells.new.search.marks.items;
    work = c.add_cells.new.search.work.items;
    counts = c.add_cells.new.counts.items;
  }

  adds : Adds (parts_in c.self.inside) object after
  adds = record {
    before = record { nursery = c.self.invariant; placed = c.cells.ensures.placed; sound = c.cells.ensures.sound };
    allowed = allowed;
    placed = c.cells-cells.ensures.placed;
    table = c.in_ok-alloc_object.ensures.added;
    takes = c.in_ok-alloc_object.ensures.cells;
    lowest = c.in_ok-alloc_object.ensures.lowest;
    each_mark = c.add_cells.ensures.each_mark ∙ c.cells-cells.ensures.count;
    marks = λ cell. c.add_cells.ensures.marks cell ∙ ap (λ (m : Marks). get_or m.marks cell false) c.reserve_one.ensures.search;
    work = c.add_cells.ensures.work ∙ ap (λ (m : Marks). m.work) c.reserve_one.ensures.search;
    each_count = c.add_cells.ensures.each_count ∙ c.cells-cells.ensures.count;
    counts = λ cell. c.add_cells.ensures.counts cell ∙ ap (λ l. get_or l cell 0) c.reserve_one.ensures.counts;
    remembered = c.reserve_one.ensures.remembered;
    room = omega (arith, c.in_ok-reserve_one.ensures.remembered_room, c.live-objects.ensures.count);
  }

pub invariant_of-self-2 : goal.invariant_of-self-2
invariant_of-self-2 c = rw c.number-self-inside.ensures.value (added (adds (goal.at.invariant_of-self-2 c).After-add_cells))

pub returns-clause-young : goal.returns-clause-young
returns-clause-young c =
    let b = (goal.at.returns-clause-young c).After-add_cells in
    young_then (object b) c.self.invariant (allowed b)
