-- The operations on regions are those of the defined step.
use Rattle.std.proofs.Common.{◌≡◌, ℕ, fold, refl}
use Rattle.std.specs.Ordering.{nat_cmp}
use Rattle.std.specs.BTreeSet.{insert_key}
use Rattle.graph_meaning.specs.declared.event.Event.TheVariants.{StartRegion, AssertAllDead}
use Rattle.graph_meaning.specs.Heap.{Heap}
use Rattle.graph_meaning.specs.Step.{heap_unless, step}
use Rattle.region_log.specs.Regions.{start_refusal, end_refusal, with_region, without_innermost, innermost}

pub step-start_region : (h : Heap) (thread : ℕ) → step h (StartRegion thread) ≡ heap_unless (start_refusal h.regions thread) (record h { regions = with_region h.regions thread })
unfolding step
step-start_region h thread = refl

-- what the innermost region has is asserted dead
pub step-assert_all_dead : (h : Heap) (thread : ℕ) →
    step h (AssertAllDead thread)
    ≡ heap_unless (end_refusal h.regions thread) (record h { regions = without_innermost h.regions thread; dead = fold (insert_key nat_cmp) h.dead (innermost h.regions thread) })
unfolding step
step-assert_all_dead h thread = refl
