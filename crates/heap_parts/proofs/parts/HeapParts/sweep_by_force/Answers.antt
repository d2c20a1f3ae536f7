use Rattle.std.proofs.Common.{length, ◌-◌, sym, ap, refl, subst, ◌∙◌}
use Rattle.graph_meaning.specs.Assertions.{traced_ids}
use Rattle.graph_meaning.specs.Collecting.{after_collection, after_sweep, holders_of, violating_dead}
use Rattle.graph_meaning.specs.Reach.{has_id}
use Rattle.sweep.specs.Parts.{PartsOfHeap, SweepsHeap}
use Rattle.heap_parts.specs.Parts.{AreDeadAndTraced, FlagTraced, PlacedHeap, heap_of, placed_heap}
use Rattle.heap_parts.proofs.Cleared.{IsSweptByForce, swept_by_force}
use Rattle.heap_parts.proofs.AfterSweep.{are_traced, traced_closed, parts_of_heap}
use Rattle.heap_parts.proofs.Stepping.{parts_in}
use Rattle.heap_parts.proofs.parts.HeapParts.sweep_by_force.Goals as goal

pub sweep-freed-requires-clause-closed : goal.sweep-freed-requires-clause-closed
sweep-freed-requires-clause-closed c =
    let s = parts_in c.self.inside in
    traced_closed s c.self.invariant c.cells.ensures.placed c.args.kept.now (subst (λ (h : PlacedHeap). FlagTraced h c.args.kept.now) (sym c.self.view_is) c.requires.kept)

module _ (c : goal.After-clear_to-cleared) where
  -- the parts before the sweep, after it, and when the flagged objects are cut off
  abbrev before : PartsOfHeap
  before = record { placed = c.self.inside.table; assertions = c.self.inside.registry; regions = c.self.inside.regions }

  abbrev swept : PartsOfHeap
  swept = record { placed = c.sweep-freed.new.table; assertions = c.sweep-freed.new.registry; regions = c.sweep-freed.new.regions }

  abbrev after : PartsOfHeap
  after = record { placed = c.clear_to-cleared.new.self; assertions = c.sweep-freed.new.registry; regions = c.sweep-freed.new.regions }

  tell : FlagTraced (placed_heap before) c.args.kept.now
  tell = subst (λ (h : PlacedHeap). FlagTraced h c.args.kept.now) (sym c.self.view_is) c.requires.kept

  sweeps : SweepsHeap (heap_of before) swept c.sweep-freed.result
  sweeps =
      c.sweep-freed.ensures.heap (heap_of before) (are_traced before c.self.invariant c.cells.ensures.placed c.args.kept.now tell)
      (parts_of_heap before c.self.invariant c.cells.ensures.placed c.args.kept.now tell)

  by_force : IsSweptByForce (heap_of before) after c.clear_to-cleared.result
  by_force =
      let to_clear = subst (λ (h : PlacedHeap). AreDeadAndTraced h c.args.to_clear.now) (sym c.self.view_is) c.requires.to_clear in
      swept_by_force before c.self.invariant c.cells.ensures.placed c.args.kept.now tell swept c.cells-2.ensures.placed c.sweep-freed.result sweeps
      c.sweep-freed.ensures.table c.sweep-freed.ensures.cells c.sweep-freed.ensures.assertions c.sweep-freed.ensures.regions c.args.to_clear.now
      to_clear after c.clear_to-cleared.result c.clear_to-cleared.ensures.cleared refl refl c.clear_to-cleared.ensures.count

pub invariant_of-self : goal.invariant_of-self
invariant_of-self c = (by_force c).parts

pub returns-clause-left : goal.returns-clause-left
returns-clause-left c =
    λ rules force. (by_force c).left rules force ∙ ap (λ (h : PlacedHeap). after_collection rules h.heap) c.self.view_is

pub returns-clause-freed : goal.returns-clause-freed
returns-clause-freed c =
    (sweeps c).count ∙ ap (λ (h : PlacedHeap). length h.heap.table.objects - length (traced_ids h.heap)) c.self.view_is

pub returns-clause-cleared : goal.returns-clause-cleared
returns-clause-cleared c =
    (by_force c).count ∙ ap (λ (h : PlacedHeap). holders_of (has_id (violating_dead h.heap)) (after_sweep h.heap).table) c.self.view_is
