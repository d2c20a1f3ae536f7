use Rattle.std.proofs.Common.{◌≡◌, ◌≤◌, length, false, refl, ap, ◌∙◌, arith}
use Rattle.std.specs.Vec.{vec_capacity}
use Rattle.std.proofs.lemmas.List.{length-replicate}
use Rattle.minor_gc.specs.Generations.{kept_by_full}
use Rattle.minor_gc.specs.Nurseries.{NurseryParts, generations_of}
use Rattle.minor_gc.specs.Searches.{marks_of}
use Rattle.minor_gc.proofs.Inside.{parts_in, IsSoundNursery}
use Rattle.minor_gc.proofs.Fronts.{length-front, get_or-front}
use Rattle.minor_gc.proofs.Remembered.{remembered_live, few_remembered, counted_remembered}
use Rattle.minor_gc.proofs.Searching.{HasRun, full_marks}
use Rattle.minor_gc.proofs.Settled.{MarksKept, LeavesKept, leads, settled, heap_is, collection_is, fewer_objects}
use Rattle.minor_gc.proofs.Surviving.{full_keeps}
use Rattle.minor_gc.proofs.nursery.Nursery.full.Goals as goal
use Rattle.minor_gc.proofs.nursery.Nursery.full.Goals.{After-len-remembered, After-deref-2}

-- the nursery before the collection
module _ (c : After-len-remembered) where
  abbrev before : NurseryParts
  before = parts_in c.self.inside

  sound : IsSoundNursery before
  sound = record { nursery = c.self.invariant; placed = c.cells.ensures.placed; sound = c.cells.ensures.sound }

-- what the search marked
module _ (c : After-deref-2) where
  run : HasRun c.self.inside.table (marks_of c.take_roots.new.self) (marks_of c.run.new.self)
  run = record { each = c.run.ensures.each; searching = c.run.ensures.searching; done = c.run.ensures.done }

  kept : MarksKept (parts_in c.self.inside) (kept_by_full (generations_of (parts_in c.self.inside))) (marks_of c.run.new.self)
  kept =
      full_marks (sound (goal.at.keep-requires-clause-closed c).After-len-remembered) (marks_of c.clear.new.self) (marks_of c.take_roots.new.self) (marks_of c.run.new.self)
      c.clear.ensures.marks c.clear.ensures.work c.take_roots.ensures run

-- what the collection left
module _ (c : goal.After-live) where
  abbrev after : NurseryParts
  after = record {
    marks = c.drop_cells.new.search.marks.items;
    work = c.drop_cells.new.search.work.items;
    counts = c.drop_cells.new.counts.items;
    placed = c.keep.new.self;
    old_up_to = c.self.inside.greatest;
    greatest = c.self.inside.greatest;
    remembered = c.clear-2.new.self.items;
    room = vec_capacity c.clear-2.new.self;
  }

  kept_then : MarksKept (parts_in c.self.inside) (kept_by_full (generations_of (parts_in c.self.inside))) (marks_of c.run.new.self)
  kept_then = kept (goal.at.invariant_of-self c).After-deref-2

  fewer : c.cells-cells.result ≤ length c.self.inside.table.cells
  fewer = omega (arith, c.cells-cells.ensures.count, c.keep.ensures.cells.count)

  leaves : LeavesKept (parts_in c.self.inside) (marks_of c.run.new.self) after
  leaves = record {
    placed = c.cells-cells.ensures.placed;
    sound = c.cells-cells.ensures.sound;
    table = rw c.deref-2.ensures.value at c.keep.ensures.kept;
    cells = rw c.deref-2.ensures.value at c.keep.ensures.cells;
    old = refl;
    greatest = refl;
    each_mark =
        length-front c.run.new.self.marks.items c.drop_cells.ensures.marks (omega (arith, fewer, kept_then.each)) ∙ c.cells-cells.ensures.count;
    marks = λ cell within.
        get_or-front c.run.new.self.marks.items c.drop_cells.ensures.marks cell false (omega (arith, within, c.cells-cells.ensures.count));
    idle = c.drop_cells.ensures.work;
    each_count =
        length-front c.forget.new.counts.items c.drop_cells.ensures.counts (omega (arith, fewer, c.forget.ensures.each, c.self.invariant.each_count))
        ∙ c.cells-cells.ensures.count;
    counts = λ cell within.
        get_or-front c.forget.new.counts.items c.drop_cells.ensures.counts cell 0 (omega (arith, within, c.cells-cells.ensures.count))
        ∙ c.forget.ensures.none cell;
    remembered = c.clear-2.ensures.items;
    room = omega (arith, c.clear-2.ensures.capacity);
  }

pub prove-unreachable-requires : goal.prove-unreachable-requires
prove-unreachable-requires c = omega (arith, c.cells.ensures.count, c.cells.ensures.placed.few)

pub keep-requires-clause-closed : goal.keep-requires-clause-closed
keep-requires-clause-closed c = rw c.deref-2.ensures.value (leads (kept c))

pub returns-clause-counts : goal.returns-clause-counts
returns-clause-counts c =
    let listed : c.len-remembered.result ≡ length c.self.inside.remembered.items = omega (arith, c.len-remembered.ensures, c.self.inside.remembered.ok.0) in
    rw (← c.self.view_is) (collection_is (kept_then c) (leaves c) _ _ _ c.live-live.ensures.count c.live.ensures.count listed)

pub returns-clause-survivors : goal.returns-clause-survivors
returns-clause-survivors c = rw (← c.self.view_is) (full_keeps (kept_then c).before (after c) (heap_is (kept_then c) (leaves c)))

pub returns-clause-heap : goal.returns-clause-heap
returns-clause-heap c = rw (← c.self.view_is) (heap_is (kept_then c) (leaves c))

pub invariant_of-self : goal.invariant_of-self
invariant_of-self c = settled (kept_then c) (leaves c)

pub overflow_sub-result : goal.overflow_sub-result
overflow_sub-result c = omega (arith, c.live-live.ensures.count, c.live.ensures.count, fewer_objects _ _ _ c.keep.ensures.kept)

pub forget-requires-clause-others : goal.forget-requires-clause-others
forget-requires-clause-others c =
    rw c.deref.ensures.value (counted_remembered (sound (goal.at.forget-requires-clause-others c).After-len-remembered))

pub forget-requires-clause-live : goal.forget-requires-clause-live
forget-requires-clause-live c =
    rw c.deref.ensures.value (remembered_live (sound (goal.at.forget-requires-clause-live c).After-len-remembered))

pub overflow_cast-remembered : goal.overflow_cast-remembered
overflow_cast-remembered c =
    omega (arith, c.len-remembered.ensures, c.self.inside.remembered.ok.0, few_remembered (sound c), c.live-live.ensures.count)

pub take_roots-requires : goal.take_roots-requires
take_roots-requires c = record {
  placed = c.cells.ensures.placed;
  each = ap length c.clear.ensures.marks ∙ length-replicate (length c.self.inside.search.marks.items) false ∙ c.self.invariant.each_mark;
}

pub drop_cells-requires : goal.drop_cells-requires
drop_cells-requires c = c.run.ensures.done

pub keep-requires-clause-each : goal.keep-requires-clause-each
keep-requires-clause-each c =
    ap length c.deref-2.ensures.value ∙ c.run.ensures.each ∙ c.take_roots.ensures.each ∙ ap length c.clear.ensures.marks
    ∙ length-replicate (length c.self.inside.search.marks.items) false ∙ c.self.invariant.each_mark

pub forget-requires-clause-each : goal.forget-requires-clause-each
forget-requires-clause-each c = c.self.invariant.each_count
