-- The snapshot of the trace of a snapshot is that snapshot.
use Rattle.std.proofs.Common.{◌≡◌, ℕ, ◌+◌, ◌≤◌, List, [], ◌∷◌, ◌++◌, length, map, Option, None, Some, Result, Ok, Err, IfOk, All, refl, sym, ap, ◌∙◌, subst}
use Rattle.std.specs.List.{flat_map}
use Rattle.std.specs.Prelude.{nat_lt}
use Rattle.std.proofs.lemmas.Bool.{cond-false, le-ltb}
use Rattle.std.proofs.lemmas.List.Elements.{All-nil, All-cons, All-head, All-tail, All-append}
use Rattle.heap_base.specs.Limits.{usual_limits}
use Rattle.heap_base.specs.declared.status.Status.TheVariants.{Clean}
use Rattle.graph_meaning.specs.declared.event.Event.{Event}
use Rattle.graph_meaning.specs.declared.event.Event.TheVariants.{Alloc, Store, Root, SetWeak, AssertDead, StartRegion, AssertAllDead, AssertInstances, AssertUnshared, AssertOwnedBy, Collect}
use Rattle.graph_meaning.specs.declared.refusal.Refusal.{Refusal}
use Rattle.graph_meaning.specs.declared.views.HeapView.{HeapView}
use Rattle.graph_meaning.specs.declared.views.ObjectView.{ObjectView}
use Rattle.graph_meaning.specs.Heap.{Heap, empty_heap}
use Rattle.graph_meaning.specs.Step.{step}
use Rattle.graph_meaning.specs.Views.{heap_view}
use Rattle.trace_reader.specs.Items.{items_of}
use Rattle.trace_reader.specs.Meaning.{Item, blank, event, refused, ◌>>=◌}
use Rattle.trace_run.specs.Program.{Effect, RunResult, by_effect, report_on, run}
use Rattle.heap_snapshot.specs.declared.from_trace.TheConstants.{LONGEST_TRACE}
use Rattle.heap_snapshot.specs.declared.read.TheConstants.{LONGEST_SNAPSHOT}
use Rattle.heap_snapshot.specs.FromTrace.{effect_of_step, takes, snapshot_meaning}
use Rattle.heap_snapshot.specs.HeapOfTrace.{alloc_of, stores_from, stores_of, root_of, events_of}
use Rattle.heap_snapshot.specs.Made.{MakesHeaps, IsNamed}
use Rattle.heap_snapshot.specs.Reading.{IsLawful, snapshot_in}
use Rattle.heap_snapshot.specs.RoundTrips.{IsNamedItem, snapshot_report, RoundTrips}
use Rattle.heap_snapshot.specs.Text.{snapshot_text}
use Rattle.heap_snapshot.specs.ToTrace.{text_of, text_by, view_status, snapshot_status}
use Rattle.heap_snapshot.specs.Trace.{trace_text}
use Rattle.heap_snapshot.proofs.Formed.{lawful_is_well_formed}
use Rattle.heap_snapshot.proofs.MadeHeaps.{IsGood, empty_good, good_step, good_lawful}
use Rattle.heap_snapshot.proofs.OneText.{written_is_read_back}
use Rattle.heap_snapshot.proofs.Remaking.{run_of, same_heap, remakes_view}
use Rattle.heap_snapshot.proofs.TraceItems.{trace_has_events}

-- ---- the run of a trace

-- the snapshot of a heap was written, and the status is 0
abbrev IsSnapshotOf : Heap → RunResult → Type 0
IsSnapshotOf h ran = ((report_on ran).text ≡ snapshot_text (heap_view h.table)) × ((report_on ran).status ≡ Clean)

-- at an operation that makes heaps the run goes on from the next heap
takes-step : (h : Heap) (e : Event) → MakesHeaps e → takes h e ≡ effect_of_step (step h e)
takes-step h (Alloc id kind slots thread) makes = refl
takes-step h (Store at slot to) makes = refl
takes-step h (Root name to) makes = refl
takes-step h (SetWeak at slot weak) makes = absurd makes
takes-step h (AssertDead id) makes = absurd makes
takes-step h (StartRegion thread) makes = absurd makes
takes-step h (AssertAllDead thread) makes = absurd makes
takes-step h (AssertInstances kind limit) makes = absurd makes
takes-step h (AssertUnshared id) makes = absurd makes
takes-step h (AssertOwnedBy owner ownee) makes = absurd makes
takes-step h Collect makes = absurd makes

-- operations that make a heap are run to its snapshot
run_made : (h k : Heap) (lines : ℕ) (events : List Event) → All MakesHeaps events → run_of h events ≡ Ok k → IsSnapshotOf k (run snapshot_meaning h lines (map (λ e. event e) events))
unfolding run
run_made h k lines [] makes ran =
    let same = same_heap h k ran in (ap (λ (n : Heap). snapshot_text (heap_view n.table)) same, refl)
run_made h k lines (e ∷ events) makes ran =
    subst (λ (f : Effect Heap). IsSnapshotOf k (by_effect (lines + 1) f (λ next. run snapshot_meaning next (lines + 1) (map (λ e. event e) events))))
    (sym (takes-step h e (All-head MakesHeaps e events makes)))
    (go (step h e) (λ n more. run_made n k (lines + 1) events (All-tail MakesHeaps e events makes) more) ran)
  where
    go : (r : Result Heap Refusal) → ((n : Heap) → run_of n events ≡ Ok k → IsSnapshotOf k (run snapshot_meaning n (lines + 1) (map (λ e. event e) events))) →
        (r >>= (λ n. run_of n events)) ≡ Ok k → IsSnapshotOf k (by_effect (lines + 1) (effect_of_step r) (λ next. run snapshot_meaning next (lines + 1) (map (λ e. event e) events)))
    go (Ok n) later ran = later n ran
    go (Err x) later ran = absurd (cc)

-- whatever trace is run to its end, the text is the snapshot of a heap that allocations, stores and roots made
abbrev Snapped : RunResult → Type 0
Snapped ran = (report_on ran).status ≡ Clean → (k : Heap) × IsGood k × ((report_on ran).text ≡ snapshot_text (heap_view k.table))

module _ (lines : ℕ) (on : Heap → RunResult) where
  by_step : (r : Result Heap Refusal) → IfOk r (λ n. Snapped (on n)) → Snapped (by_effect lines (effect_of_step r) on)
  by_step (Ok n) snapped clean = snapped clean
  by_step (Err x) snapped clean = absurd (cc)

  each_good : (r : Result Heap Refusal) → ((n : Heap) → IsGood n → Snapped (on n)) → IfOk r IsGood → IfOk r (λ n. Snapped (on n))
  each_good (Ok n) later is = later n is
  each_good (Err x) later is = tt

  stepped : (h : Heap) (e : Event) → MakesHeaps e → IsNamed e → IsGood h → ((n : Heap) → IsGood n → Snapped (on n)) → Snapped (by_effect lines (effect_of_step (step h e)) on)
  stepped h e makes is good later = by_step (step h e) (each_good (step h e) later (good_step h e makes is good))

  by_event : (h : Heap) (e : Event) → IsNamed e → IsGood h → ((n : Heap) → IsGood n → Snapped (on n)) → Snapped (by_effect lines (takes h e) on)
  by_event h (Alloc id kind slots thread) is good later clean = stepped h (Alloc id kind slots thread) tt is good later clean
  by_event h (Store at slot to) is good later clean = stepped h (Store at slot to) tt is good later clean
  by_event h (Root name to) is good later clean = stepped h (Root name to) tt is good later clean
  by_event h (SetWeak at slot weak) is good later clean = absurd (cc)
  by_event h (AssertDead id) is good later clean = absurd (cc)
  by_event h (StartRegion thread) is good later clean = absurd (cc)
  by_event h (AssertAllDead thread) is good later clean = absurd (cc)
  by_event h (AssertInstances kind limit) is good later clean = absurd (cc)
  by_event h (AssertUnshared id) is good later clean = absurd (cc)
  by_event h (AssertOwnedBy owner ownee) is good later clean = absurd (cc)
  by_event h Collect is good later clean = absurd (cc)

run_snapped : (h : Heap) (lines : ℕ) (items : List Item) → All IsNamedItem items → IsGood h → Snapped (run snapshot_meaning h lines items)
unfolding run
run_snapped h lines [] named good clean = (h, good, refl)
run_snapped h lines (blank ∷ items) named good clean = run_snapped h (lines + 1) items (All-tail IsNamedItem blank items named) good clean
run_snapped h lines (refused r ∷ items) named good clean = absurd (cc)
run_snapped h lines (event e ∷ items) named good clean =
    by_event (lines + 1) (λ n. run snapshot_meaning n (lines + 1) items) h e (All-head IsNamedItem (event e) items named) good
    (λ n is. run_snapped n (lines + 1) items (All-tail IsNamedItem (event e) items named) is) clean

-- ---- the operations of a view

allocs_make : (objects : List ObjectView) → All MakesHeaps (map alloc_of objects)
allocs_make [] = All-nil MakesHeaps
allocs_make (o ∷ objects) = All-cons MakesHeaps (alloc_of o) (map alloc_of objects) tt (allocs_make objects)

slots_make : (at slot : ℕ) (slots : List (Option ℕ)) → All MakesHeaps (stores_from at slot slots)
slots_make at slot [] = All-nil MakesHeaps
slots_make at slot (None ∷ slots) = slots_make at (slot + 1) slots
slots_make at slot (Some to ∷ slots) = All-cons MakesHeaps (Store at slot (Some to)) (stores_from at (slot + 1) slots) tt (slots_make at (slot + 1) slots)

stores_make : (objects : List ObjectView) → All MakesHeaps (flat_map stores_of objects)
stores_make [] = All-nil MakesHeaps
stores_make (o ∷ objects) = All-append MakesHeaps (stores_of o) (flat_map stores_of objects) (slots_make o.id 0 o.slots) (stores_make objects)

roots_make : (roots : List (List ℕ × ℕ)) → All MakesHeaps (map root_of roots)
roots_make [] = All-nil MakesHeaps
roots_make (r ∷ roots) = All-cons MakesHeaps (root_of r) (map root_of roots) tt (roots_make roots)

events_make : (v : HeapView) → All MakesHeaps (events_of v)
events_make v =
    All-append MakesHeaps (map alloc_of v.objects ++ flat_map stores_of v.objects) (map root_of v.roots)
    (All-append MakesHeaps (map alloc_of v.objects) (flat_map stores_of v.objects) (allocs_make v.objects) (stores_make v.objects)) (roots_make v.roots)

-- ---- there and back

-- the snapshot of a lawful view is read
is_read : (v : HeapView) → IsLawful v → length (snapshot_text v) ≤ LONGEST_SNAPSHOT → snapshot_in (snapshot_text v) ≡ Ok v
unfolding snapshot_in
is_read v lawful short =
    cond-false (nat_lt LONGEST_SNAPSHOT (length (snapshot_text v))) _ _ (le-ltb LONGEST_SNAPSHOT (length (snapshot_text v)) short) ∙ written_is_read_back v lawful

-- and its trace makes it again
is_made_again : (v : HeapView) → IsLawful v → length (trace_text v) ≤ LONGEST_TRACE →
    ((snapshot_report (items_of LONGEST_TRACE (trace_text v))).text ≡ snapshot_text v) × ((snapshot_report (items_of LONGEST_TRACE (trace_text v))).status ≡ Clean)
is_made_again v lawful short =
    let made = remakes_view v (lawful_is_well_formed v lawful) in
    let again = run_made (empty_heap usual_limits) made.0 0 (events_of v) (events_make v) made.1 in
    let items = trace_has_events LONGEST_TRACE v lawful short in (
      ap (λ (items : List Item). (snapshot_report items).text) items ∙ again.0 ∙ ap snapshot_text made.2,
      ap (λ (items : List Item). (snapshot_report items).status) items ∙ again.1,
    )

pub round_trips : RoundTrips
round_trips items named clean short fits =
    let ran = run_snapped (empty_heap usual_limits) 0 items named empty_good clean in
    let v : HeapView = heap_view ran.0.table in
    let lawful = good_lawful ran.0 ran.1 in
    let first : (snapshot_report items).text ≡ snapshot_text v = ran.2 in
    let read = is_read v lawful (subst (λ (t : List ℕ). length t ≤ LONGEST_SNAPSHOT) first short) in
    let trace : text_of (snapshot_report items).text ≡ trace_text v = ap text_of first ∙ ap text_by read in
    let again = is_made_again v lawful (subst (λ (t : List ℕ). length t ≤ LONGEST_TRACE) trace fits) in
    let run_of_text = λ (t : List ℕ). snapshot_report (items_of LONGEST_TRACE t) in (
      ap snapshot_status first ∙ ap view_status read,
      ap (λ (t : List ℕ). (run_of_text t).text) trace ∙ again.0 ∙ sym first,
      ap (λ (t : List ℕ). (run_of_text t).status) trace ∙ again.1,
    )
