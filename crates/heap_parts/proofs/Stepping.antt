-- What one operation of a trace leaves of the parts of a heap.
use Rattle.std.proofs.Common.{◌≡◌, Option, None, Some, Result, Ok, Err, sym, ap, refl, subst, ◌∙◌}
use Rattle.std.specs.Result.{OnOk, OnErr, IfOk, IsErr, IsErrAnd, result_err}
use Rattle.std.proofs.lemmas.Bool.{false≢true}
use Rattle.heap_base.specs.Limits.{ArePossible}
use Rattle.heap_base.specs.declared.limits.Limits.{Limits}
use Rattle.graph_meaning.specs.declared.event.Event.{Event}
use Rattle.graph_meaning.specs.declared.refusal.Refusal.{Refusal}
use Rattle.graph_meaning.specs.declared.refusal.Stop.{Stop}
use Rattle.graph_meaning.specs.declared.refusal.Stop.TheVariants.{Refused, OutOfMemory}
use Rattle.graph_meaning.specs.Answers.{RefusesBy}
use Rattle.graph_meaning.specs.Collecting.{Rules, after_collection}
use Rattle.graph_meaning.specs.Heap.{Heap, empty_heap}
use Rattle.graph_meaning.specs.Laws.{RefersToLive, IdsRise, IsOrdered, IsWithinLimits}
use Rattle.graph_meaning.specs.Step.{heap_unless, step}
use Rattle.graph_meaning.proofs.Keeping.{heaps_refer_to_live}
use Rattle.graph_meaning.proofs.Orders.{limits_are_kept}
use Rattle.graph_meaning.proofs.Rising.{ids_always_rise}
use Rattle.object_table.specs.Placed.{nothing_placed}
use Rattle.assert_registry.specs.Assertions.{AreOfSeenTypes, no_assertions}
use Rattle.region_log.specs.Regions.{no_open_regions}
use Rattle.sweep.specs.Parts.{PartsOfHeap}
use Rattle.heap_parts.specs.declared.parts.HeapParts.TheInside.{Inside}
use Rattle.heap_parts.specs.Parts.{PlacedHeap, IsWellFormed, AreParts, AreUnasserted, Steps, placed_heap}

abbrev pub parts_in : Inside → PartsOfHeap
parts_in i = record { placed = i.table; assertions = i.registry; regions = i.regions }

-- ---- what is true of a heap at any time

pub well_formed-empty : (most : Limits) → ArePossible most → IsWellFormed (empty_heap most)
well_formed-empty most possible = record {
  refers = heaps_refer_to_live.0 most possible;
  rising = ids_always_rise.0 most possible;
  ordered = (limits_are_kept.0 most possible).0;
  limits = (limits_are_kept.0 most possible).1;
}

pub well_formed-step : (h : Heap) (event : Event) → IsWellFormed h → IfOk (step h event) IsWellFormed
well_formed-step h event well =
    all (step h event) (heaps_refer_to_live.1 h event well.refers) (ids_always_rise.1 h event well.rising) (limits_are_kept.1 h event (well.ordered, well.limits))
  where
    all : (made : Result Heap Refusal) → IfOk made RefersToLive → IfOk made (λ h. IdsRise h.table) → IfOk made (λ h. IsOrdered h × IsWithinLimits h.table) → IfOk made IsWellFormed
    all (Ok h) refers rising limits = record { refers = refers; rising = rising; ordered = limits.0; limits = limits.1 }
    all (Err r) refers rising limits = tt

pub well_formed-collection : (rules : Rules) (h : Heap) → IsWellFormed h → IsWellFormed (after_collection rules h)
well_formed-collection rules h well =
    let limits = limits_are_kept.2 rules h (well.ordered, well.limits) in
    record {
      refers = heaps_refer_to_live.2 rules h well.refers;
      rising = ids_always_rise.2 rules h well.rising;
      ordered = limits.0;
      limits = limits.1;
    }

well_formed-after : {T : Type 0} (before after : PlacedHeap) (event : Event) (result : Result T Stop) → Steps before event result after → IsWellFormed before.heap → IsWellFormed after.heap
well_formed-after before after event (Ok x) steps well =
    subst (λ made. IfOk made IsWellFormed) steps.applied (well_formed-step before.heap event well)
well_formed-after before after event (Err e) steps well =
    subst IsWellFormed (sym (ap (λ (h : PlacedHeap). h.heap) steps.err)) well

-- after an operation the parts are those of a heap, where types with a limit were seen
pub parts-after : {T : Type 0} (before after : PartsOfHeap) (event : Event) (result : Result T Stop) →
    Steps (placed_heap before) event result (placed_heap after) → AreParts before →
    AreOfSeenTypes after.assertions.limits after.placed.table.kinds → AreUnasserted after → AreParts after
parts-after before after event result steps are seen unasserted = record {
  heap = well_formed-after (placed_heap before) (placed_heap after) event result steps are.heap;
  seen = seen;
  unasserted = unasserted;
}

-- the parts of the empty heap
pub parts-nothing : (most : Limits) → ArePossible most → AreParts (record { placed = nothing_placed most; assertions = no_assertions; regions = no_open_regions })
parts-nothing most possible = record { heap = well_formed-empty most possible; seen = λ kind some. absurd (false≢true some); unasserted = refl }

-- ---- the steps of a call, where `step` is this

result_err-heap_unless : (refusal : Option Refusal) (h : Heap) → result_err (heap_unless refusal h) ≡ refusal
result_err-heap_unless None h = refl
result_err-heap_unless (Some r) h = refl

module _ {T : Type 0} (before after : PlacedHeap) (event : Event) (refusal : Option Refusal) (h : Heap) (means : step before.heap event ≡ heap_unless refusal h) where
  pub steps-by : (result : Result T Stop) → RefusesBy result refusal → OnOk result (after.heap ≡ h) → OnErr result (after ≡ before) → Steps before event result after
  steps-by (Ok x) refused leaves err = record {
    refused = ap result_err means ∙ result_err-heap_unless refusal h ∙ refused;
    applied = means ∙ ap (λ r. heap_unless r h) refused ∙ ap Ok (sym leaves);
    err = err;
  }
  steps-by (Err (Refused r)) refused leaves err = record {
    refused = ap result_err means ∙ result_err-heap_unless refusal h ∙ refused;
    applied = leaves;
    err = err;
  }
  steps-by (Err OutOfMemory) refused leaves err = record {
    refused = ap result_err means ∙ result_err-heap_unless refusal h ∙ refused;
    applied = leaves;
    err = err;
  }

-- the error that a `?` hands on
pub handed_on : {T : Type 0} (r : Result T Stop) (e : Stop) → IsErr r × IsErrAnd r (λ x. x ≡ e) → r ≡ Err e
handed_on (Ok x) e given = absurd given.1
handed_on (Err x) e given = ap Err given.1
