-- The items of the trace of a view are its operations.
use Rattle.std.proofs.Common.{◌≡◌, ℕ, ◌+◌, ◌*◌, ◌<◌, ◌≤◌, ◌^◌, ◌||◌, Bool, IsTrue, List, [], ◌∷◌, ◌++◌, length, map, Option, None, Some, IfSome}
use Rattle.std.proofs.Common.{All, sym, ap, ◌∙◌, subst, arith, append_assoc, append-nil, length-append, inl, inr}
use Rattle.std.specs.List.{flat_map}
use Rattle.std.proofs.lemmas.Bool.{false≢true}
use Rattle.std.proofs.lemmas.Bool.Decides.{eqb_tells}
use Rattle.std.proofs.lemmas.List.{map-append, length-map}
use Rattle.std.proofs.lemmas.List.Elements.{All-nil, All-cons, All-head, All-tail, All-weaker}
use Rattle.std.proofs.lemmas.List.Sums.{sum_by-cons}
use Rattle.heap_base.specs.Limits.{usual_limits}
use Rattle.heap_base.specs.declared.limits.TheConstants.{LONGEST_LINE, LONGEST_TRACE, USUAL_OBJECTS, USUAL_SLOTS, USUAL_ROOTS}
use Rattle.graph_meaning.specs.declared.event.Event.{Event}
use Rattle.graph_meaning.specs.declared.event.Event.TheVariants.{Store}
use Rattle.graph_meaning.specs.declared.views.HeapView.{HeapView}
use Rattle.graph_meaning.specs.declared.views.ObjectView.{ObjectView}
use Rattle.graph_meaning.specs.Heap.{empty_heap}
use Rattle.graph_meaning.specs.Reach.{has_id}
use Rattle.trace_reader.specs.Items.{pieces, line_of, items_from}
use Rattle.trace_reader.specs.Meaning.{Item, event, item_of_line}
use Rattle.trace_reader.proofs.Pieces.{pieces-nil, pieces-line, line_of-line, items_from-cons, item_of-short}
use Rattle.serde_json.specs.Written.{compact_text}
use Rattle.heap_snapshot.specs.Dangling.{object_ids}
use Rattle.heap_snapshot.specs.Formed.{IsWellFormed, IsId, IsName}
use Rattle.heap_snapshot.proofs.Formed.{slot_total, lawful_is_well_formed}
use Rattle.heap_snapshot.proofs.Legal.{IsLegalObject, IsLegalRoot}
use Rattle.heap_snapshot.specs.Trace.{alloc_data, store_data, root_data, data_line, alloc_line, slot_lines, store_lines, root_line, trace_text}
use Rattle.heap_snapshot.specs.HeapOfTrace.{alloc_of, stores_from, stores_of, root_of, events_of, heap_after, TraceHasEvents, TraceIsShort, RemakesHeap}
use Rattle.heap_snapshot.proofs.Remaking.{remakes_view}
use Rattle.heap_snapshot.proofs.TraceLines.{IsFitStore, IsLineOf, alloc_is_line, store_is_line, root_is_line}

-- ---- texts that are read as operations

abbrev items : List Event → List Item
items events = map (λ e. event e) events

-- wherever the text stands in a trace, its items are these operations
abbrev HasItems : List ℕ → List Event → Type 0
HasItems text events =
    (limit before : ℕ) (rest : List ℕ) → before + length (text ++ rest) ≤ limit →
    items_from limit before (pieces (text ++ rest)) ≡ items events ++ items_from limit (before + length text) (pieces rest)

record Reads (text : List ℕ) (events : List Event) : Type 0 where
  has : HasItems text events
  short : length text ≤ 1001 * length events

has-nil : HasItems [] []
has-nil limit before rest within = let same : before ≡ before + 0 = omega arith in ap (λ n. items_from limit n (pieces rest)) same

reads-nil : Reads [] []
reads-nil = record { has = has-nil; short = omega arith }

has-append : (text more : List ℕ) (xs ys : List Event) → HasItems text xs → HasItems more ys → HasItems (text ++ more) (xs ++ ys)
has-append text more xs ys first later limit before rest within =
    let same : (text ++ more) ++ rest ≡ text ++ (more ++ rest) = append_assoc text more rest in
    let size : length ((text ++ more) ++ rest) ≡ length (text ++ (more ++ rest)) = ap (λ (t : List ℕ). length t) same in
    let place : before + length text + length more ≡ before + length (text ++ more) = omega (arith, length-append text more) in
    ap (λ (t : List ℕ). items_from limit before (pieces t)) same
    ∙ first limit before (more ++ rest) (omega (arith, within, size))
    ∙ ap (λ (is : List Item). items xs ++ is) (later limit (before + length text) rest (omega (arith, within, size, length-append text (more ++ rest))))
    ∙ sym (append_assoc (items xs) (items ys) (items_from limit (before + length text + length more) (pieces rest)))
    ∙ ap (λ (is : List Item). is ++ items_from limit (before + length text + length more) (pieces rest)) (sym (map-append (λ (e : Event). event e) xs ys))
    ∙ ap (λ n. items (xs ++ ys) ++ items_from limit n (pieces rest)) place

reads-append : {text more : List ℕ} {xs ys : List Event} → Reads text xs → Reads more ys → Reads (text ++ more) (xs ++ ys)
reads-append {text} {more} {xs} {ys} first later = record {
  has = has-append text more xs ys first.has later.has;
  short = omega (arith, first.short, later.short, length-append text more, length-append xs ys);
}

has-line : (line : List ℕ) (e : Event) → IsLineOf line e → HasItems (line ++ 10 ∷ []) (e ∷ [])
has-line line e is limit before rest within =
    let piece : List ℕ = line ++ 10 ∷ [] in
    let same : line_of piece ≡ line = line_of-line line is.one_line in
    let size : length (line_of piece) ≡ length line = ap (λ (t : List ℕ). length t) same in
    let there : before + length piece ≤ limit = omega (arith, within, length-append piece rest) in
    let few : length (line_of piece) ≤ LONGEST_LINE = omega (arith, size, is.short) in
    ap (λ (ps : List (List ℕ)). items_from limit before ps) (pieces-line line rest is.one_line)
    ∙ items_from-cons limit before piece (pieces rest)
    ∙ ap (λ (i : Item). i ∷ items_from limit (before + length piece) (pieces rest)) (item_of-short limit before piece few there ∙ ap item_of_line same ∙ is.item)

reads-line : (line : List ℕ) (e : Event) → IsLineOf line e → Reads (line ++ 10 ∷ []) (e ∷ [])
reads-line line e is =
    record { has = has-line line e is; short = omega (arith, is.short, length-append line (10 ∷ [])) }

-- ---- the three parts of a trace

alloc_reads : (o : ObjectView) → IsLegalObject o → length o.slots < 2 ^ 32 → Reads (alloc_line o) (alloc_of o ∷ [])
unfolding data_line
alloc_reads o legal few =
    reads-line (compact_text (alloc_data o.id (length o.slots) o.kind)) (alloc_of o) (alloc_is_line o.id (length o.slots) o.kind (record { legal_id = legal.0; few_slots = few; legal_kind = legal.1 }))

store_reads : (at slot to : ℕ) → IsFitStore at slot to → Reads (data_line (store_data at slot to)) (Store at slot (Some to) ∷ [])
unfolding data_line
store_reads at slot to fit = reads-line (compact_text (store_data at slot to)) (Store at slot (Some to)) (store_is_line at slot to fit)

root_reads : (r : List ℕ × ℕ) → IsName r.0 → IsId r.1 → Reads (root_line r) (root_of r ∷ [])
unfolding data_line
root_reads r is c = reads-line (compact_text (root_data r.0 r.1)) (root_of r) (root_is_line r.0 r.1 is c)

-- what a slot holds has an id
abbrev HoldsId : Option ℕ → Type 0
HoldsId held = IfSome held IsId

allocs_read : (objects : List ObjectView) → All IsLegalObject objects → slot_total objects ≤ USUAL_SLOTS → Reads (flat_map alloc_line objects) (map alloc_of objects)
allocs_read [] legal few = reads-nil
allocs_read (o ∷ objects) legal few =
    let total : slot_total (o ∷ objects) ≡ length o.slots + slot_total objects = sum_by-cons (λ (o : ObjectView). length o.slots) o objects in
    reads-append (alloc_reads o (All-head IsLegalObject o objects legal) (omega (arith, few, total)))
    (allocs_read objects (All-tail IsLegalObject o objects legal) (omega (arith, few, total)))

slots_read : (at slot : ℕ) (slots : List (Option ℕ)) → IsId at → slot + length slots < 2 ^ 32 → All HoldsId slots → Reads (slot_lines at slot slots) (stores_from at slot slots)
slots_read at slot [] a few hold = reads-nil
slots_read at slot (None ∷ slots) a few hold = slots_read at (slot + 1) slots a (omega (arith, few)) (All-tail HoldsId None slots hold)
slots_read at slot (Some to ∷ slots) a few hold =
    reads-append
    (store_reads at slot to (record { legal_at = a; low_slot = omega (arith, few); legal_to = All-head HoldsId (Some to) slots hold }))
    (slots_read at (slot + 1) slots a (omega (arith, few)) (All-tail HoldsId (Some to) slots hold))

stores_read : (objects : List ObjectView) → All IsLegalObject objects → slot_total objects ≤ USUAL_SLOTS →
    All (λ (o : ObjectView). All HoldsId o.slots) objects → Reads (flat_map store_lines objects) (flat_map stores_of objects)
stores_read [] legal few hold = reads-nil
stores_read (o ∷ objects) legal few hold =
    let total : slot_total (o ∷ objects) ≡ length o.slots + slot_total objects = sum_by-cons (λ (o : ObjectView). length o.slots) o objects in
    reads-append
    (slots_read o.id 0 o.slots (All-head IsLegalObject o objects legal).0 (omega (arith, few, total)) (All-head (λ (o : ObjectView). All HoldsId o.slots) o objects hold))
    (stores_read objects (All-tail IsLegalObject o objects legal) (omega (arith, few, total)) (All-tail (λ (o : ObjectView). All HoldsId o.slots) o objects hold))

roots_read : (roots : List (List ℕ × ℕ)) → All IsLegalRoot roots → All (λ (r : List ℕ × ℕ). IsId r.1) roots → Reads (flat_map root_line roots) (map root_of roots)
roots_read [] named held = reads-nil
roots_read (r ∷ roots) named held =
    reads-append
    (root_reads r (All-head IsLegalRoot r roots named) (All-head (λ (r : List ℕ × ℕ). IsId r.1) r roots held))
    (roots_read roots (All-tail IsLegalRoot r roots named) (All-tail (λ (r : List ℕ × ℕ). IsId r.1) r roots held))

-- ---- the whole

-- whatever is an id of these is such as they are
among : (ids : List ℕ) (to : ℕ) → All IsId ids → IsTrue (has_id ids to) → IsId to
among [] to all there = absurd (false≢true there)
among (id ∷ ids) to all there = elim (eqb_tells id to) as (λ _. IsId to) [
  | inl here ↦ subst IsId here.1 (All-head IsId id ids all)
  | inr other ↦ among ids to (All-tail IsId id ids all) (ap (λ (b : Bool). b || has_id ids to) (sym other.0) ∙ there)
]

holds_id : (ids : List ℕ) → All IsId ids → (held : Option ℕ) → IfSome held (λ to. IsTrue (has_id ids to)) → HoldsId held
holds_id ids all None there = tt
holds_id ids all (Some to) there = among ids to all there

ids_legal : (objects : List ObjectView) → All IsLegalObject objects → All IsId (object_ids objects)
ids_legal [] legal = All-nil IsId
ids_legal (o ∷ objects) legal = All-cons IsId o.id (object_ids objects) (All-head IsLegalObject o objects legal).0 (ids_legal objects (All-tail IsLegalObject o objects legal))

trace_reads : (v : HeapView) → IsWellFormed v → Reads (trace_text v) (events_of v)
unfolding trace_text
trace_reads v formed =
    let ids : List ℕ = object_ids v.objects in
    let all : All IsId ids = ids_legal v.objects formed.objects in
    let hold : All (λ (o : ObjectView). All HoldsId o.slots) v.objects =
    All-weaker (λ (o : ObjectView). All (λ (held : Option ℕ). IfSome held (λ to. IsTrue (has_id ids to))) o.slots)
    (λ (o : ObjectView). All HoldsId o.slots)
    (λ o refer. All-weaker (λ (held : Option ℕ). IfSome held (λ to. IsTrue (has_id ids to))) HoldsId (holds_id ids all) o.slots refer) v.objects
    formed.slots in
    let held : All (λ (r : List ℕ × ℕ). IsId r.1) v.roots =
    All-weaker (λ (r : List ℕ × ℕ). IsTrue (has_id ids r.1)) (λ (r : List ℕ × ℕ). IsId r.1) (λ r there. among ids r.1 all there) v.roots formed.roots in
    reads-append (reads-append (allocs_read v.objects formed.objects formed.few_slots) (stores_read v.objects formed.objects formed.few_slots hold))
    (roots_read v.roots formed.root_names held)

items_nil : (limit before : ℕ) → items_from limit before (pieces []) ≡ []
unfolding items_from
items_nil limit before = ap (λ (ps : List (List ℕ)). items_from limit before ps) pieces-nil

pub trace_has_events : TraceHasEvents
trace_has_events limit v lawful short =
    let text : List ℕ = trace_text v in
    let whole : text ++ [] ≡ text = append-nil text in
    let within : 0 + length (text ++ []) ≤ limit = omega (arith, short, ap (λ (t : List ℕ). length t) whole) in
    ap (λ (t : List ℕ). items_from limit 0 (pieces t)) (sym whole)
    ∙ (trace_reads v (lawful_is_well_formed v lawful)).has limit 0 [] within
    ∙ ap (λ (is : List Item). items (events_of v) ++ is) (items_nil limit (0 + length text))
    ∙ append-nil (items (events_of v))

-- ---- how many operations there are

few_stores : (at slot : ℕ) (slots : List (Option ℕ)) → length (stores_from at slot slots) ≤ length slots
few_stores at slot [] = omega arith
few_stores at slot (None ∷ slots) = omega (arith, few_stores at (slot + 1) slots)
few_stores at slot (Some to ∷ slots) = omega (arith, few_stores at (slot + 1) slots)

few_stores_of : (objects : List ObjectView) → length (flat_map stores_of objects) ≤ slot_total objects
few_stores_of [] = omega arith
few_stores_of (o ∷ objects) =
    omega (arith, few_stores o.id 0 o.slots, few_stores_of objects, length-append (stores_of o) (flat_map stores_of objects), sum_by-cons (λ (o : ObjectView). length o.slots) o objects)

few_events : (v : HeapView) → IsWellFormed v → length (events_of v) ≤ USUAL_OBJECTS + USUAL_SLOTS + USUAL_ROOTS
few_events v formed =
    let allocs : List Event = map alloc_of v.objects in
    let stores : List Event = flat_map stores_of v.objects in
    let roots : List Event = map root_of v.roots in
    omega (
      arith,
      length-append (allocs ++ stores) roots,
      length-append allocs stores,
      length-map v.objects alloc_of,
      length-map v.roots root_of,
      few_stores_of v.objects,
      formed.few_objects,
      formed.few_slots,
      formed.few_roots,
    )

pub trace_is_short : TraceIsShort
trace_is_short v lawful =
    let formed = lawful_is_well_formed v lawful in
    let long : length (trace_text v) ≤ 1001 * length (events_of v) = (trace_reads v formed).short in
    omega (arith, long, few_events v formed)

pub remakes_heap : RemakesHeap
remakes_heap v lawful =
    let made = remakes_view v (lawful_is_well_formed v lawful) in
    (made.0, ap (λ (is : List Item). heap_after (empty_heap usual_limits) is) (trace_has_events LONGEST_TRACE v lawful (trace_is_short v lawful)) ∙ made.1, made.2)
