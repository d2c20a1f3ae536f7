use Rattle.std.proofs.Common.{◌≡◌, length, refl, sym, ◌∙◌, arith}
use Rattle.std.specs.Vec.{vec_capacity}
use Rattle.minor_gc.specs.Generations.{kept_by_minor}
use Rattle.minor_gc.specs.Marks.{Marks}
use Rattle.minor_gc.specs.Nurseries.{NurseryParts, generations_of}
use Rattle.minor_gc.specs.Searches.{marks_of}
use Rattle.minor_gc.proofs.Inside.{parts_in, IsSoundNursery}
use Rattle.minor_gc.proofs.Remembered.{remembered_live, few_remembered, counted_remembered}
use Rattle.minor_gc.proofs.Searching.{HasRun, minor_marks, old_kept}
use Rattle.minor_gc.proofs.Settled.{MarksKept, LeavesKept, ids_same, leads, hold, settled, heap_is, collection_is, fewer_objects}
use Rattle.minor_gc.proofs.Surviving.{minor_keeps}
use Rattle.minor_gc.proofs.nursery.Nursery.minor.Goals as goal
use Rattle.minor_gc.proofs.nursery.Nursery.minor.Goals.{After-len-remembered, After-deref-3}

-- the nursery before the collection
module _ (c : After-len-remembered) where
  abbrev before : NurseryParts
  before = parts_in c.self.inside

  sound : IsSoundNursery before
  sound = record { nursery = c.self.invariant; placed = c.cells-cells.ensures.placed; sound = c.cells-cells.ensures.sound }

-- what the search marked
module _ (c : After-deref-3) where
  abbrev marks : Marks
  marks = marks_of c.run.new.self

  run : HasRun c.self.inside.table (marks_of c.take_objects.new.self) marks
  run = record { each = c.run.ensures.each; searching = c.run.ensures.searching; done = c.run.ensures.done }

  kept : MarksKept (parts_in c.self.inside) (kept_by_minor (generations_of (parts_in c.self.inside))) marks
  kept =
      minor_marks (sound (goal.at.keep_above-requires-clause-closed c).After-len-remembered) (marks_of c.take_roots.new.self) (marks_of c.take_objects.new.self) marks
      c.take_roots.ensures (rw c.deref.ensures.value at c.take_objects.ensures) run

-- what the collection left
module _ (c : goal.After-live) where
  abbrev after : NurseryParts
  after = record {
    placed = c.keep_above.new.self;
    old_up_to = c.self.inside.greatest;
    greatest = c.self.inside.greatest;
    marks = c.run.new.self.marks.items;
    work = c.run.new.self.work.items;
    counts = c.forget.new.counts.items;
    remembered = c.clear.new.self.items;
    room = vec_capacity c.clear.new.self;
  }

  kept_then : MarksKept (parts_in c.self.inside) (kept_by_minor (generations_of (parts_in c.self.inside))) (marks_of c.run.new.self)
  kept_then = kept (goal.at.invariant_of-self c).After-deref-3

  leaves : LeavesKept (parts_in c.self.inside) (marks_of c.run.new.self) after
  leaves =
      let cells = rw c.deref-3.ensures.value at c.keep_above.ensures.cells in
      record {
        placed = c.cells.ensures.placed;
        sound = c.cells.ensures.sound;
        table = rw c.deref-3.ensures.value at c.keep_above.ensures.kept;
        cells = cells;
        old = refl;
        greatest = refl;
        each_mark = kept_then.each ∙ sym c.keep_above.ensures.count;
        marks = λ cell within. refl;
        idle = c.run.ensures.done;
        each_count = c.forget.ensures.each ∙ c.self.invariant.each_count ∙ sym c.keep_above.ensures.count;
        counts = λ cell within. c.forget.ensures.none cell;
        remembered = c.clear.ensures.items;
        room = omega (arith, c.clear.ensures.capacity);
      }

pub overflow_cast-remembered : goal.overflow_cast-remembered
overflow_cast-remembered c =
    omega (arith, c.len-remembered.ensures, c.self.inside.remembered.ok.0, few_remembered (sound c), c.live-live.ensures.count)

pub take_objects-requires-clause-live : goal.take_objects-requires-clause-live
take_objects-requires-clause-live c =
    rw c.deref.ensures.value (remembered_live (sound (goal.at.take_objects-requires-clause-live c).After-len-remembered))

pub forget-requires-clause-live : goal.forget-requires-clause-live
forget-requires-clause-live c =
    rw c.deref-2.ensures.value (remembered_live (sound (goal.at.forget-requires-clause-live c).After-len-remembered))

pub forget-requires-clause-others : goal.forget-requires-clause-others
forget-requires-clause-others c =
    rw c.deref-2.ensures.value (counted_remembered (sound (goal.at.forget-requires-clause-others c).After-len-remembered))

pub keep_above-requires-clause-closed : goal.keep_above-requires-clause-closed
keep_above-requires-clause-closed c = rw c.deref-3.ensures.value (leads (kept c))

pub keep_above-requires-clause-held : goal.keep_above-requires-clause-held
keep_above-requires-clause-held c = rw c.deref-3.ensures.value (hold (kept c))

pub keep_above-requires-clause-others : goal.keep_above-requires-clause-others
keep_above-requires-clause-others c =
    rw c.deref-3.ensures.value (λ id live low. ids_same (kept c) id ∙ old_kept (sound (goal.at.keep_above-requires-clause-others c).After-len-remembered) id live low)

pub overflow_sub-result : goal.overflow_sub-result
overflow_sub-result c = omega (arith, c.live-live.ensures.count, c.live.ensures.count, fewer_objects _ _ _ c.keep_above.ensures.kept)

pub invariant_of-self : goal.invariant_of-self
invariant_of-self c = settled (kept_then c) (leaves c)

pub returns-clause-heap : goal.returns-clause-heap
returns-clause-heap c = rw (← c.self.view_is) (heap_is (kept_then c) (leaves c))

pub returns-clause-survivors : goal.returns-clause-survivors
returns-clause-survivors c = rw (← c.self.view_is) (minor_keeps (kept_then c).before (after c) (heap_is (kept_then c) (leaves c)))

pub returns-clause-counts : goal.returns-clause-counts
returns-clause-counts c =
    let listed : c.len-remembered.result ≡ length c.self.inside.remembered.items = omega (arith, c.len-remembered.ensures, c.self.inside.remembered.ok.0) in
    rw (← c.self.view_is) (collection_is (kept_then c) (leaves c) _ _ _ c.live-live.ensures.count c.live.ensures.count listed)
