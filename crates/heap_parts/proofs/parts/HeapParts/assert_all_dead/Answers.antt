use Rattle.std.proofs.Common.{fold, ap, refl, sym, ◌∙◌, Ok, Err}
use Rattle.std.specs.BTreeSet.{insert_key}
use Rattle.std.specs.Ordering.{nat_cmp}
use Rattle.graph_meaning.specs.declared.event.Event.TheVariants.{AssertAllDead}
use Rattle.graph_meaning.specs.declared.refusal.Stop.TheVariants.{OutOfMemory, Refused}
use Rattle.region_log.specs.Regions.{RegionTable}
use Rattle.sweep.specs.Parts.{PartsOfHeap}
use Rattle.heap_parts.specs.Parts.{AreParts, Steps, placed_heap}
use Rattle.heap_parts.proofs.Operations.{EndsRegion, steps-assert_all_dead}
use Rattle.heap_parts.proofs.Stepping.{handed_on, parts_in}
use Rattle.heap_parts.proofs.parts.HeapParts.assert_all_dead.Goals as goal
use Rattle.heap_parts.proofs.parts.HeapParts.assert_all_dead.Goals.{In_ok-finish}

pub returns-in_err-unasserted : goal.returns-in_err-unasserted
returns-in_err-unasserted c =
    let s = parts_in c.self.inside in
    let refused = Refused c.in_err-unasserted.field-0.0 in
    rw (← c.self.view_is, handed_on c.from_residual.result refused c.from_residual.ensures)
    (steps-assert_all_dead s c.self.invariant s (Err refused) c.args.thread (sym c.in_err-unasserted.ensures.refused) tt refl).0

pub returns-in_err-assert_dead_all : goal.returns-in_err-assert_dead_all
returns-in_err-assert_dead_all c =
    let s = parts_in c.self.inside in
    rw (← c.self.view_is, handed_on c.from_residual-in_err-assert_dead_all.result OutOfMemory c.from_residual-in_err-assert_dead_all.ensures)
    (steps-assert_all_dead s c.self.invariant (record s { assertions = c.assert_dead_all.new.self }) (Err OutOfMemory) c.args.thread
    (sym c.in_ok-unasserted.ensures.refused) tt (ap (λ a. record s { assertions = a }) c.in_err-assert_dead_all.ensures.err)).0

module _ (c : In_ok-finish) where
  -- the parts before the region ends, and after it
  abbrev before : PartsOfHeap
  before = record { placed = c.self.inside.table; assertions = c.self.inside.registry; regions = c.self.inside.regions }

  abbrev after : PartsOfHeap
  after = record { placed = c.self.inside.table; assertions = c.assert_dead_all.new.self; regions = c.finish.new.self }

  ends : EndsRegion before c.args.thread after
  ends = record {
    placed = refl;
    assertions = c.in_ok-assert_dead_all.ensures.done ∙ ap (λ ids. record before.assertions { dead = fold (insert_key nat_cmp) before.assertions.dead ids }) c.in_ok-unasserted.ensures.unasserted;
    regions = ap (λ (r : RegionTable). r.regions) c.in_ok-finish.ensures.ended;
    unasserted = ap (λ (r : RegionTable). r.unasserted) c.in_ok-finish.ensures.ended;
    nested = c.in_ok-finish.ensures.nested;
  }

  steps : Steps {T = Unit {0}} (placed_heap before) (AssertAllDead c.args.thread) (Ok tt) (placed_heap after) × AreParts after
  steps = steps-assert_all_dead {T = Unit {0}} before c.self.invariant after (Ok tt) c.args.thread (sym c.in_ok-unasserted.ensures.refused) ends tt

pub invariant_of-self-2 : goal.invariant_of-self-2
invariant_of-self-2 c = (steps c).1

pub returns : goal.returns
returns c = rw (← c.self.view_is) ((steps c).0)
