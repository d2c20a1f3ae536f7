-- The trace of a snapshot, as operations, and the heap that they make.
use Rattle.std.specs.Prelude.{◌≡◌, ℕ, ◌+◌, ◌≤◌, List, [], ◌∷◌, ◌++◌, length, map, Option, None, Some, Result, Ok, Err}
use Rattle.std.specs.List.{flat_map}
use Rattle.heap_base.specs.Limits.{usual_limits}
use Rattle.heap_base.specs.declared.limits.TheConstants.{LONGEST_TRACE}
use Rattle.graph_meaning.specs.declared.event.Event.{Event}
use Rattle.graph_meaning.specs.declared.event.Event.TheVariants.{Alloc, Store, Root}
use Rattle.graph_meaning.specs.declared.refusal.Refusal.{Refusal}
use Rattle.graph_meaning.specs.declared.views.HeapView.{HeapView}
use Rattle.graph_meaning.specs.declared.views.ObjectView.{ObjectView}
use Rattle.graph_meaning.specs.Heap.{Heap, empty_heap}
use Rattle.graph_meaning.specs.Step.{step}
use Rattle.graph_meaning.specs.Views.{heap_view}
use Rattle.trace_reader.specs.Items.{items_of}
use Rattle.trace_reader.specs.Meaning.{Item, blank, event, refused, ◌>>=◌}
use Rattle.heap_snapshot.specs.Reading.{IsLawful}
use Rattle.heap_snapshot.specs.Trace.{trace_text}

-- ---- the operations of the trace of a view

-- an object comes first with empty slots, in a thread that has no region
abbrev pub alloc_of : ObjectView → Event
alloc_of o = Alloc o.id o.kind (length o.slots) 0

-- what a slot holds is put into it; nothing is put into an empty one
abbrev pub store_of : ℕ → ℕ → Option ℕ → List Event
store_of at slot None = []
store_of at slot (Some to) = Store at slot (Some to) ∷ []

abbrev pub root_of : List ℕ × ℕ → Event
root_of r = Root r.0 (Some r.1)

-- what is put into these slots of an object, of which the first has this number
abbrev pub stores_from : ℕ → ℕ → List (Option ℕ) → List Event
stores_from at slot [] = []
stores_from at slot (held ∷ slots) = store_of at slot held ++ stores_from at (slot + 1) slots

abbrev pub stores_of : ObjectView → List Event
stores_of o = stores_from o.id 0 o.slots

-- The objects by id, what their slots hold by id and slot, and the roots by name.
abbrev pub events_of : HeapView → List Event
events_of v = map alloc_of v.objects ++ flat_map stores_of v.objects ++ map root_of v.roots

-- ---- the heap behind a trace

-- a line with no operation changes nothing
abbrev pub step_of_item : Heap → Item → Result Heap Refusal
step_of_item h blank = Ok h
step_of_item h (event e) = step h e
step_of_item h (refused r) = Err r

-- the heap that these items make of a heap, or the first refusal
abbrev pub heap_after : Heap → List Item → Result Heap Refusal
heap_after h [] = Ok h
heap_after h (item ∷ items) = do
  next ← step_of_item h item
  heap_after next items

-- ---- laws

-- The trace of a lawful view, where it is no longer than a trace may be, is read as these operations, a line for each.
abbrev pub TraceHasEvents : Type 0
TraceHasEvents =
    (limit : ℕ) (v : HeapView) → IsLawful v → length (trace_text v) ≤ limit → items_of limit (trace_text v) ≡ map (λ e. event e) (events_of v)

-- The trace of a lawful view is no longer than a trace may be.
abbrev pub TraceIsShort : Type 0
TraceIsShort = (v : HeapView) → IsLawful v → length (trace_text v) ≤ LONGEST_TRACE

-- From the empty heap, no line of the trace of a lawful view is refused, and the heap behind the last has this view.
abbrev pub RemakesHeap : Type 0
RemakesHeap =
    (v : HeapView) → IsLawful v → (h : Heap) × (heap_after (empty_heap usual_limits) (items_of LONGEST_TRACE (trace_text v)) ≡ Ok h) × (heap_view h.table ≡ v)
