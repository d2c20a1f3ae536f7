use Rattle.std.proofs.Common.{length, ◌-◌, sym, ap, subst, ◌∙◌}
use Rattle.graph_meaning.specs.Assertions.{traced_ids}
use Rattle.graph_meaning.specs.Collecting.{after_sweep}
use Rattle.sweep.specs.Parts.{PartsOfHeap, SweepsHeap}
use Rattle.heap_parts.specs.Parts.{FlagTraced, PlacedHeap, heap_of, placed_heap}
use Rattle.heap_parts.proofs.AfterSweep.{are_traced, traced_closed, parts_of_heap, heap_left, parts_left}
use Rattle.heap_parts.proofs.Stepping.{parts_in}
use Rattle.heap_parts.proofs.parts.HeapParts.sweep.Goals as goal

pub sweep-requires-clause-closed : goal.sweep-requires-clause-closed
sweep-requires-clause-closed c =
    let s = parts_in c.self.inside in
    traced_closed s c.self.invariant c.cells.ensures.placed c.args.kept.now (subst (λ (h : PlacedHeap). FlagTraced h c.args.kept.now) (sym c.self.view_is) c.requires.kept)

module _ (c : goal.After-sweep) where
  -- the parts before the sweep, and after it
  abbrev before : PartsOfHeap
  before = record { placed = c.self.inside.table; assertions = c.self.inside.registry; regions = c.self.inside.regions }

  abbrev after : PartsOfHeap
  after = record { placed = c.sweep.new.table; assertions = c.sweep.new.registry; regions = c.sweep.new.regions }

  tell : FlagTraced (placed_heap before) c.args.kept.now
  tell = subst (λ (h : PlacedHeap). FlagTraced h c.args.kept.now) (sym c.self.view_is) c.requires.kept

  sweeps : SweepsHeap (heap_of before) after c.sweep.result
  sweeps =
      c.sweep.ensures.heap (heap_of before) (are_traced before c.self.invariant c.cells.ensures.placed c.args.kept.now tell)
      (parts_of_heap before c.self.invariant c.cells.ensures.placed c.args.kept.now tell)

pub invariant_of-self : goal.invariant_of-self
invariant_of-self c =
    parts_left (before c) c.self.invariant c.cells.ensures.placed c.args.kept.now (tell c) (after c) c.sweep.result (sweeps c) c.sweep.ensures.table c.sweep.ensures.assertions c.sweep.ensures.regions

pub returns-clause-left : goal.returns-clause-left
returns-clause-left c =
    heap_left (before c) c.self.invariant c.cells.ensures.placed c.args.kept.now (tell c) (after c) c.sweep.result (sweeps c) c.sweep.ensures.table c.sweep.ensures.assertions
    ∙ ap (λ (h : PlacedHeap). after_sweep h.heap) c.self.view_is

pub returns-clause-freed : goal.returns-clause-freed
returns-clause-freed c =
    (sweeps c).count ∙ ap (λ (h : PlacedHeap). length h.heap.table.objects - length (traced_ids h.heap)) c.self.view_is
