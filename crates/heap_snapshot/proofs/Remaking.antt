-- The operations of a well-formed view make a heap with this view.
use Rattle.std.proofs.Common.{◌≡◌, ◌≢◌, ℕ, ◌+◌, ◌<◌, ◌≤◌, Bool, true, false, not, ◌&&◌, cond, eqb, ltb, leb, IsTrue, List, [], ◌∷◌, ◌++◌, length}
use Rattle.std.proofs.Common.{map, fold, replicate, get_or, slice_set, Option, None, Some, IfSome, Result, Ok, Err, All, AllPairs, sym, refl, ap}
use Rattle.std.proofs.Common.{◌∙◌, subst, arith, suc, append_assoc, append-nil, length-append}
use Rattle.std.specs.List.{flat_map}
use Rattle.std.specs.List.Sorted.{IsStrictlySortedBy}
use Rattle.std.specs.Map.{keys_of}
use Rattle.std.specs.BTreeMap.{insert_entry}
use Rattle.std.specs.Option.{option_map_or, is_some}
use Rattle.std.specs.Ordering.{match_ordering, ordering_reverse}
use Rattle.std.specs.declared.cmp.Ordering.{Ordering}
use Rattle.std.specs.declared.cmp.Ordering.TheVariants.{Less, Greater}
use Rattle.std.proofs.lemmas.Bool.{lt-leb, le-ltb, eq-eqb, ne_eqb, cond-true, cond-false}
use Rattle.std.proofs.lemmas.Cmp.{nat_list_cmp_total}
use Rattle.std.proofs.lemmas.List.{length-map, length-replicate, map-append}
use Rattle.std.proofs.lemmas.List.Elements.{All-nil, All-cons, All-head, All-tail, All-push, All-weaker, All-from_recursion}
use Rattle.std.proofs.lemmas.List.Sums.{sum_by-append, fold-append, fold_push}
use Rattle.std.proofs.lemmas.Map.Keys.{sorted_head, sorted_tail}
use Rattle.heap_base.specs.Limits.{usual_limits}
use Rattle.heap_base.specs.declared.limits.TheConstants.{USUAL_OBJECTS, USUAL_SLOTS, MOST_KINDS}
use Rattle.graph_meaning.specs.declared.event.Event.{Event}
use Rattle.graph_meaning.specs.declared.event.Event.TheVariants.{Store, Root}
use Rattle.graph_meaning.specs.declared.refusal.Refusal.{Refusal}
use Rattle.graph_meaning.specs.declared.refusal.Refusal.TheVariants.{IdNotRising, TooManyObjects, TooManySlots, NotLive, BadSlot, TooManyRoots, TooManyTypes}
use Rattle.graph_meaning.specs.declared.views.HeapView.{HeapView}
use Rattle.graph_meaning.specs.declared.views.ObjectView.{ObjectView}
use Rattle.graph_meaning.specs.Heap.{Slot, Object, Table, Heap, empty_slot, empty_heap, name_cmp, object_at, is_live, ids, slot_count, is_seen, edge_of}
use Rattle.graph_meaning.specs.Reach.{has_id}
use Rattle.graph_meaning.specs.Step.{first_refusal, refusal_where, not_live, kind_refusal, alloc_refusal, slots_of, store_refusal, is_root}
use Rattle.graph_meaning.specs.Step.{root_refusal, with_kind, with_object, with_slot, with_changed_slot, slot_holding, with_root, heap_unless, step}
use Rattle.graph_meaning.specs.Views.{object_view, heap_view}
use Rattle.graph_meaning.proofs.HeapLemmas.{has_id-ids}
use Rattle.trace_reader.specs.Meaning.{event, ◌>>=◌}
use Rattle.heap_snapshot.specs.Dangling.{object_ids}
use Rattle.heap_snapshot.specs.Formed.{IsWellFormed, kind_names}
use Rattle.heap_snapshot.proofs.Formed.{slot_total}
use Rattle.heap_snapshot.proofs.Legal.{IsLegalObject}
use Rattle.heap_snapshot.specs.FromTrace.{bare_heap}
use Rattle.heap_snapshot.specs.HeapOfTrace.{alloc_of, stores_from, stores_of, root_of, events_of, heap_after}
use Rattle.heap_snapshot.proofs.Making.{alloc_answers, store_answers}

-- ---- operations one after another

abbrev pub run_of : Heap → List Event → Result Heap Refusal
run_of h events = heap_after h (map (λ e. event e) events)

then_event : (h next : Heap) (e : Event) (events : List Event) → step h e ≡ Ok next → run_of h (e ∷ events) ≡ run_of next events
then_event h next e events is = ap (λ (r : Result Heap Refusal). r >>= (λ n. run_of n events)) is

pub same_heap : (h k : Heap) → ◌≡◌ {A = Result Heap Refusal} (Ok h) (Ok k) → h ≡ k
same_heap h k is = cc

then_events : (h next : Heap) (xs ys : List Event) → run_of h xs ≡ Ok next → run_of h (xs ++ ys) ≡ run_of next ys
then_events h next [] ys is = ap (λ (k : Heap). run_of k ys) (same_heap h next is)
then_events h next (x ∷ xs) ys is = go (step h x) (λ k ran. then_events k next xs ys ran) is
  where
    go : (r : Result Heap Refusal) → ((k : Heap) → run_of k xs ≡ Ok next → run_of k (xs ++ ys) ≡ run_of next ys) →
        (r >>= (λ n. run_of n xs)) ≡ Ok next → (r >>= (λ n. run_of n (xs ++ ys))) ≡ run_of next ys
    go (Ok k) later ran = later k ran
    go (Err e) later ran = absurd (cc)

-- ---- objects with empty slots, and with those of a view

abbrev object_with : ObjectView → List Slot → Object
object_with o slots = record { id = o.id; kind = o.kind; slots = slots }

abbrev empty_object : ObjectView → Object
empty_object o = object_with o (replicate (length o.slots) empty_slot)

abbrev slot_of : Option ℕ → Slot
slot_of held = record { held = held; weak = false }

abbrev full : ObjectView → Object
full o = object_with o (map slot_of o.slots)

abbrev with_objects : Table → List Object → Table
with_objects t objects = record t { objects = objects }

abbrev id_of : Object → ℕ
id_of o = o.id

ids-empty_object : (objects : List ObjectView) → map id_of (map empty_object objects) ≡ object_ids objects
ids-empty_object [] = refl
ids-empty_object (o ∷ objects) = ap (λ (xs : List ℕ). o.id ∷ xs) (ids-empty_object objects)

ids-full : (objects : List ObjectView) → map id_of (map full objects) ≡ object_ids objects
ids-full [] = refl
ids-full (o ∷ objects) = ap (λ (xs : List ℕ). o.id ∷ xs) (ids-full objects)

slots-full : (slots : List (Option ℕ)) → map edge_of (map slot_of slots) ≡ slots
slots-full [] = refl
slots-full (held ∷ slots) = ap (λ (xs : List (Option ℕ)). held ∷ xs) (slots-full slots)

views-full : (objects : List ObjectView) → map object_view (map full objects) ≡ objects
views-full [] = refl
views-full (o ∷ objects) =
    ap (λ (slots : List (Option ℕ)). record { id = o.id; kind = o.kind; slots = slots } ∷ map object_view (map full objects)) (slots-full o.slots)
    ∙ ap (λ (xs : List ObjectView). o ∷ xs) (views-full objects)

-- ---- allocations

abbrev pub seen : List (List ℕ) → ObjectView → List (List ℕ)
seen kinds o = with_kind kinds o.kind

-- the table of these objects, with every slot empty
abbrev table_of : List ObjectView → ℕ → Table
table_of objects greatest = record { objects = map empty_object objects; roots = []; greatest = greatest; kinds = kind_names objects; most = usual_limits }

slot_count-empty : (before : ℕ) (objects : List ObjectView) →
    fold (λ (n : ℕ) (o : Object). n + length o.slots) before (map empty_object objects) ≡ fold (λ (n : ℕ) (o : ObjectView). n + length o.slots) before objects
slot_count-empty before [] = refl
slot_count-empty before (o ∷ objects) =
    ap (λ n. fold (λ (m : ℕ) (x : Object). m + length x.slots) (before + n) (map empty_object objects)) (length-replicate {A = Slot} (length o.slots) empty_slot)
    ∙ slot_count-empty (before + length o.slots) objects

kinds_grow : (kinds : List (List ℕ)) (kind : List ℕ) → length kinds ≤ length (with_kind kinds kind)
kinds_grow kinds kind = go (is_seen kinds kind)
  where
    go : (b : Bool) → length kinds ≤ length (cond b kinds (kinds ++ kind ∷ []))
    go true = omega arith
    go false = omega (arith, length-append kinds (kind ∷ []))

pub more_kinds : (kinds : List (List ℕ)) (objects : List ObjectView) → length kinds ≤ length (fold seen kinds objects)
more_kinds kinds [] = omega arith
more_kinds kinds (o ∷ objects) = omega (arith, kinds_grow kinds o.kind, more_kinds (with_kind kinds o.kind) objects)

kind_allowed : (t : Table) (kind : List ℕ) → length (with_kind t.kinds kind) ≤ MOST_KINDS → kind_refusal t kind ≡ None
kind_allowed t kind few = go (is_seen t.kinds kind) few
  where
    go : (b : Bool) → length (cond b t.kinds (t.kinds ++ kind ∷ [])) ≤ MOST_KINDS → refusal_where (not b && leb MOST_KINDS (length t.kinds)) TooManyTypes ≡ None
    go true few = refl
    go false few =
        let room : length t.kinds < MOST_KINDS = omega (arith, few, length-append t.kinds (kind ∷ [])) in
        ap (λ (b : Bool). refusal_where b TooManyTypes) (lt-leb MOST_KINDS (length t.kinds) room)

-- the object may be allocated in the table
record HasRoomFor (t : Table) (o : ObjectView) : Type 0 where
  above : t.greatest < o.id
  few : length t.objects < t.most.objects
  room : slot_count t + length o.slots ≤ t.most.slots
  kinds : length (with_kind t.kinds o.kind) ≤ MOST_KINDS

alloc_allowed : (t : Table) (o : ObjectView) → HasRoomFor t o → alloc_refusal t o.id o.kind (length o.slots) ≡ None
unfolding alloc_refusal
alloc_allowed t o has =
    let objects : Option Refusal = refusal_where (leb t.most.objects (length t.objects)) TooManyObjects in
    let many : Option Refusal = refusal_where (ltb t.most.slots (slot_count t + length o.slots)) TooManySlots in
    let kinds : Option Refusal = kind_refusal t o.kind in
    ap (λ (b : Bool). first_refusal (refusal_where b (IdNotRising o.id)) (first_refusal objects (first_refusal many kinds))) (lt-leb o.id t.greatest has.above)
    ∙ ap (λ (b : Bool). first_refusal (refusal_where b TooManyObjects) (first_refusal many kinds)) (lt-leb t.most.objects (length t.objects) has.few)
    ∙ ap (λ (b : Bool). first_refusal (refusal_where b TooManySlots) kinds) (le-ltb t.most.slots (slot_count t + length o.slots) has.room)
    ∙ kind_allowed t o.kind has.kinds

table_of-push : (done : List ObjectView) (o : ObjectView) (greatest : ℕ) → table_of (done ++ o ∷ []) o.id ≡ with_object (table_of done greatest) o.id o.kind (length o.slots)
unfolding with_object
table_of-push done o greatest =
    ap (λ (xs : List Object). record { objects = xs; roots = []; greatest = o.id; kinds = kind_names (done ++ o ∷ []); most = usual_limits }) (map-append empty_object done (o ∷ []))
    ∙ ap (λ (ks : List (List ℕ)). record { objects = map empty_object done ++ empty_object o ∷ []; roots = []; greatest = o.id; kinds = ks; most = usual_limits }) (fold_push seen [] done o)

alloc_one : (done : List ObjectView) (o : ObjectView) (greatest : ℕ) → HasRoomFor (table_of done greatest) o
    → step (bare_heap (table_of done greatest)) (alloc_of o) ≡ Ok (bare_heap (table_of (done ++ o ∷ []) o.id))
alloc_one done o greatest has =
    alloc_answers (table_of done greatest) (table_of (done ++ o ∷ []) o.id) o.id o.kind (length o.slots) 0 (Ok tt)
    (alloc_allowed (table_of done greatest) o has) (table_of-push done o greatest)

abbrev Rising : List ObjectView → Type 0
Rising objects = AllPairs (λ (x y : ℕ). x < y) (object_ids objects)

rising_head : (o : ObjectView) (rest : List ObjectView) → Rising (o ∷ rest) → All (λ (id : ℕ). o.id < id) (object_ids rest)
rising_head o rest rising k d within = rising 0 (suc k) d (omega arith) (omega arith)

rising_tail : (o : ObjectView) (rest : List ObjectView) → Rising (o ∷ rest) → Rising rest
rising_tail o rest rising i j d below within = rising (suc i) (suc j) d (omega arith) (omega arith)

-- these objects may be allocated behind those that were, whose greatest id is this one
record MayFollow (done rest : List ObjectView) (greatest : ℕ) : Type 0 where
  few : length done + length rest ≤ USUAL_OBJECTS
  room : slot_total (done ++ rest) ≤ USUAL_SLOTS
  kinds : length (kind_names (done ++ rest)) ≤ MOST_KINDS
  above : All (λ (id : ℕ). greatest < id) (object_ids rest)
  rising : Rising rest

first_has_room : (done : List ObjectView) (o : ObjectView) (rest : List ObjectView) (greatest : ℕ) → MayFollow done (o ∷ rest) greatest → HasRoomFor (table_of done greatest) o
first_has_room done o rest greatest may =
    let now : List ObjectView = done ++ o ∷ [] in
    let all : now ++ rest ≡ done ++ o ∷ rest = append_assoc done (o ∷ []) rest in
    let total : slot_count (table_of done greatest) ≡ slot_total done = slot_count-empty 0 done in
    let sum : slot_total now ≡ slot_total done + length o.slots = sum_by-append (λ (x : ObjectView). length x.slots) done (o ∷ []) ∙ omega arith in
    let split : slot_total (now ++ rest) ≡ slot_total now + slot_total rest = sum_by-append (λ (x : ObjectView). length x.slots) now rest in
    let room : slot_total (now ++ rest) ≤ USUAL_SLOTS = subst (λ (xs : List ObjectView). slot_total xs ≤ USUAL_SLOTS) (sym all) may.room in
    let kinds : length (kind_names (now ++ rest)) ≤ MOST_KINDS = subst (λ (xs : List ObjectView). length (kind_names xs) ≤ MOST_KINDS) (sym all) may.kinds in
    let more : length (kind_names now) ≤ length (fold seen (kind_names now) rest) = more_kinds (kind_names now) rest in
    let kinds_split : length (kind_names (now ++ rest)) ≡ length (fold seen (kind_names now) rest) = ap (λ (ks : List (List ℕ)). length ks) (fold-append seen [] now rest) in
    let kinds_now : length (kind_names now) ≤ MOST_KINDS = omega (arith, kinds, more, kinds_split) in
    let few = may.few in
    record {
      above = All-head (λ (id : ℕ). greatest < id) o.id (object_ids rest) may.above;
      few = omega (arith, few, length-map done empty_object);
      room = omega (arith, room, split, total, sum);
      kinds = subst (λ (ks : List (List ℕ)). length ks ≤ MOST_KINDS) (fold_push seen [] done o) kinds_now;
    }

alloc_all : (done rest : List ObjectView) (greatest : ℕ) → MayFollow done rest greatest
    → (last : ℕ) × (run_of (bare_heap (table_of done greatest)) (map alloc_of rest) ≡ Ok (bare_heap (table_of (done ++ rest) last)))
alloc_all done [] greatest may = (greatest, ap (λ (xs : List ObjectView). Ok (bare_heap (table_of xs greatest))) (sym (append-nil done)))
alloc_all done (o ∷ rest) greatest may =
    let now : List ObjectView = done ++ o ∷ [] in
    let all : now ++ rest ≡ done ++ o ∷ rest = append_assoc done (o ∷ []) rest in
    let few = may.few in
    let one = alloc_one done o greatest (first_has_room done o rest greatest may) in
    let later = alloc_all now rest o.id (record {
      few = omega (arith, few, length-append done (o ∷ []));
      room = subst (λ (xs : List ObjectView). slot_total xs ≤ USUAL_SLOTS) (sym all) may.room;
      kinds = subst (λ (xs : List ObjectView). length (kind_names xs) ≤ MOST_KINDS) (sym all) may.kinds;
      above = rising_head o rest may.rising;
      rising = rising_tail o rest may.rising;
    }) in (
      later.0,
      then_event (bare_heap (table_of done greatest)) (bare_heap (table_of now o.id)) (alloc_of o) (map alloc_of rest) one ∙ later.1
          ∙ ap (λ (xs : List ObjectView). Ok (bare_heap (table_of xs later.0))) all,
    )

-- ---- stores

abbrev Apart : ℕ → List Object → Type 0
Apart id objects = All (λ (x : Object). x.id ≢ id) objects

object_between : (before after : List Object) (o : Object) → Apart o.id before → object_at (before ++ o ∷ after) o.id ≡ Some o
object_between [] after o apart = cond-true (eqb o.id o.id) (Some o) _ (eq-eqb o.id o.id refl)
object_between (x ∷ before) after o apart =
    cond-false (eqb x.id o.id) (Some x) _ (ne_eqb x.id o.id (All-head (λ (x : Object). x.id ≢ o.id) x before apart))
    ∙ object_between before after o (All-tail (λ (x : Object). x.id ≢ o.id) x before apart)

-- a change to a slot of an object changes no other
module _ (id slot : ℕ) (change : Slot → Slot) where
  others_kept : (objects : List Object) → Apart id objects → map (with_slot id slot change) objects ≡ objects
  others_kept [] apart = refl
  others_kept (x ∷ objects) apart =
      ap (λ (y : Object). y ∷ map (with_slot id slot change) objects) (cond-false (eqb x.id id) _ x (ne_eqb x.id id (All-head (λ (x : Object). x.id ≢ id) x objects apart)))
      ∙ ap (λ (ys : List Object). x ∷ ys) (others_kept objects (All-tail (λ (x : Object). x.id ≢ id) x objects apart))

set_behind : (done rest : List Slot) (x y : Slot) → slice_set (done ++ x ∷ rest) (length done) y ≡ done ++ y ∷ rest
set_behind [] rest x y = refl
set_behind (d ∷ done) rest x y = ap (λ (xs : List Slot). d ∷ xs) (set_behind done rest x y)

at_behind : (done rest : List Slot) (x d : Slot) → get_or (done ++ x ∷ rest) (length done) d ≡ x
at_behind [] rest x d = refl
at_behind (y ∷ done) rest x d = at_behind done rest x d

store_allowed : (t : Table) (at slot to : ℕ) (o : Object) → object_at t.objects at ≡ Some o → slot < length o.slots → is_live t to ≡ true → store_refusal t at slot (Some to) ≡ None
unfolding store_refusal
store_allowed t at slot to o found within live =
    let room : Option Refusal = refusal_where (leb (slots_of t at) slot) (BadSlot slot) in
    let has_room : room ≡ None =
    ap (λ (x : Option Object). refusal_where (leb (option_map_or (λ (o : Object). length o.slots) x 0) slot) (BadSlot slot)) found
    ∙ ap (λ (b : Bool). refusal_where b (BadSlot slot)) (lt-leb (length o.slots) slot within) in
    ap (λ (x : Option Object). first_refusal (first_refusal (refusal_where (not (is_some x)) (NotLive at)) room) (not_live t to)) found
    ∙ ap (λ (x : Option Refusal). first_refusal x (not_live t to)) has_room
    ∙ ap (λ (b : Bool). refusal_where (not b) (NotLive to)) live

module _ (t : Table) (before after : List Object) (o : ObjectView) (apart : Apart o.id before) (apart_after : Apart o.id after) where
  abbrev place : List Slot → Table
  place slots = with_objects t (before ++ object_with o slots ∷ after)

  changed : (done rest : List Slot) (x : Slot) (to : Option ℕ) → place (done ++ slot_holding to x ∷ rest) ≡ with_changed_slot (place (done ++ x ∷ rest)) o.id (length done) (slot_holding to)
  unfolding with_changed_slot
  changed done rest x to =
      let slots : List Slot = done ++ x ∷ rest in
      let change : Object → Object = with_slot o.id (length done) (slot_holding to) in
      let here : change (object_with o slots) ≡ object_with o (done ++ slot_holding to x ∷ rest) =
      cond-true (eqb o.id o.id) _ (object_with o slots) (eq-eqb o.id o.id refl)
      ∙ ap (λ (y : Slot). object_with o (slice_set slots (length done) (slot_holding to y))) (at_behind done rest x empty_slot)
      ∙ ap (object_with o) (set_behind done rest x (slot_holding to x)) in
      let all : map change (before ++ object_with o slots ∷ after) ≡ before ++ object_with o (done ++ slot_holding to x ∷ rest) ∷ after =
      map-append change before (object_with o slots ∷ after)
      ∙ ap (λ (xs : List Object). xs ++ change (object_with o slots) ∷ map change after) (others_kept o.id (length done) (slot_holding to) before apart)
      ∙ ap (λ (y : Object). before ++ y ∷ map change after) here
      ∙ ap (λ (xs : List Object). before ++ object_with o (done ++ slot_holding to x ∷ rest) ∷ xs) (others_kept o.id (length done) (slot_holding to) after apart_after) in
      ap (λ (xs : List Object). with_objects t xs) (sym all)

  store_one : (done rest : List Slot) (x : Slot) (to : ℕ) → is_live (place (done ++ x ∷ rest)) to ≡ true →
      step (bare_heap (place (done ++ x ∷ rest))) (Store o.id (length done) (Some to)) ≡ Ok (bare_heap (place (done ++ slot_holding (Some to) x ∷ rest)))
  store_one done rest x to live =
      let slots : List Slot = done ++ x ∷ rest in
      let within : length done < length slots = omega (arith, length-append done (x ∷ rest)) in
      store_answers (place slots) (place (done ++ slot_holding (Some to) x ∷ rest)) o.id (length done) (Some to)
      (store_allowed (place slots) o.id (length done) to (object_with o slots) (object_between before after (object_with o slots) apart) within live)
      (changed done rest x (Some to))

  ids_placed : (slots : List Slot) → ids (place slots) ≡ map id_of before ++ o.id ∷ map id_of after
  ids_placed slots = map-append id_of before (object_with o slots ∷ after)

  module _ (all : List ℕ) (same : map id_of before ++ o.id ∷ map id_of after ≡ all) where
    lives : (slots : List Slot) (to : ℕ) → IsTrue (has_id all to) → is_live (place slots) to ≡ true
    lives slots to there =
        sym (has_id-ids (place slots) to) ∙ ap (λ (xs : List ℕ). has_id xs to) (ids_placed slots ∙ same) ∙ there

    -- the same with one slot more behind those that are done
    one_more : (done : List Slot) (x : Slot) (slots : List (Option ℕ)) →
        run_of (bare_heap (place ((done ++ x ∷ []) ++ replicate (length slots) empty_slot))) (stores_from o.id (length (done ++ x ∷ [])) slots)
        ≡ Ok (bare_heap (place ((done ++ x ∷ []) ++ map slot_of slots)))
        → run_of (bare_heap (place (done ++ x ∷ replicate (length slots) empty_slot))) (stores_from o.id (length done + 1) slots) ≡ Ok (bare_heap (place (done ++ x ∷ map slot_of slots)))
    one_more done x slots is =
        let rest : List Slot = replicate (length slots) empty_slot in
        ap (λ (n : ℕ). run_of (bare_heap (place (done ++ x ∷ rest))) (stores_from o.id n slots)) (sym (length-append done (x ∷ [])))
        ∙ ap (λ (xs : List Slot). run_of (bare_heap (place xs)) (stores_from o.id (length (done ++ x ∷ [])) slots)) (sym (append_assoc done (x ∷ []) rest))
        ∙ is
        ∙ ap (λ (xs : List Slot). Ok (bare_heap (place xs))) (append_assoc done (x ∷ []) (map slot_of slots))

    slots_stored : (done : List Slot) (slots : List (Option ℕ)) → All (λ (held : Option ℕ). IfSome held (λ to. IsTrue (has_id all to))) slots
        → run_of (bare_heap (place (done ++ replicate (length slots) empty_slot))) (stores_from o.id (length done) slots) ≡ Ok (bare_heap (place (done ++ map slot_of slots)))
    slots_stored done [] refer = refl
    slots_stored done (None ∷ slots) refer =
        one_more done empty_slot slots (slots_stored (done ++ empty_slot ∷ []) slots (All-tail (λ (held : Option ℕ). IfSome held (λ to. IsTrue (has_id all to))) None slots refer))
    slots_stored done (Some to ∷ slots) refer =
        let rest : List Slot = replicate (length slots) empty_slot in
        let there : IsTrue (has_id all to) = All-head (λ (held : Option ℕ). IfSome held (λ to. IsTrue (has_id all to))) (Some to) slots refer in
        then_event (bare_heap (place (done ++ empty_slot ∷ rest))) (bare_heap (place (done ++ slot_of (Some to) ∷ rest)))
        (Store o.id (length done) (Some to)) (stores_from o.id (length done + 1) slots)
        (store_one done rest empty_slot to (lives (done ++ empty_slot ∷ rest) to there))
        ∙ one_more done (slot_of (Some to)) slots
        (slots_stored (done ++ slot_of (Some to) ∷ []) slots
        (All-tail (λ (held : Option ℕ). IfSome held (λ to. IsTrue (has_id all to))) (Some to) slots refer))

abbrev Refers : List ℕ → ObjectView → Type 0
Refers all o = All (λ (held : Option ℕ). IfSome held (λ to. IsTrue (has_id all to))) o.slots

-- each of these objects has an id below the others
abbrev Below : List Object → List ObjectView → Type 0
Below done rest = All (λ (x : Object). All (λ (id : ℕ). x.id < id) (object_ids rest)) done

apart_emptied : (id : ℕ) (rest : List ObjectView) → All (λ (y : ℕ). id < y) (object_ids rest) → Apart id (map empty_object rest)
apart_emptied id [] above = All-nil _
apart_emptied id (o ∷ rest) above =
    let less : id < o.id = All-head (λ (y : ℕ). id < y) o.id (object_ids rest) above in
    All-cons (λ (x : Object). x.id ≢ id) (empty_object o) (map empty_object rest) (λ same. absurd (omega arith)) (apart_emptied id rest (All-tail (λ (y : ℕ). id < y) o.id (object_ids rest) above))

module _ (t : Table) (all : List ℕ) where
  -- behind the objects whose slots are stored stand these, and all that any slot refers to is there
  record MayStore (done : List Object) (rest : List ObjectView) : Type 0 where
    below : Below done rest
    rising : Rising rest
    same : map id_of done ++ object_ids rest ≡ all
    refer : All (Refers all) rest

  first_stored : (done : List Object) (o : ObjectView) (rest : List ObjectView) → MayStore done (o ∷ rest) → MayStore (done ++ full o ∷ []) rest
  first_stored done o rest may = record {
    below =
        All-push (λ (x : Object). All (λ (id : ℕ). x.id < id) (object_ids rest)) done (full o)
        (All-weaker (λ (x : Object). All (λ (id : ℕ). x.id < id) (object_ids (o ∷ rest))) (λ (x : Object). All (λ (id : ℕ). x.id < id) (object_ids rest))
        (λ x low. All-tail (λ (id : ℕ). x.id < id) o.id (object_ids rest) low) done may.below)
        (rising_head o rest may.rising);
    rising = rising_tail o rest may.rising;
    same =
        ap (λ (xs : List ℕ). xs ++ object_ids rest) (map-append id_of done (full o ∷ []))
        ∙ append_assoc (map id_of done) (o.id ∷ []) (object_ids rest)
        ∙ may.same;
    refer = All-tail (Refers all) o rest may.refer;
  }

  objects_stored : (done : List Object) (rest : List ObjectView) → MayStore done rest
      → run_of (bare_heap (with_objects t (done ++ map empty_object rest))) (flat_map stores_of rest) ≡ Ok (bare_heap (with_objects t (done ++ map full rest)))
  objects_stored done [] may = refl
  objects_stored done (o ∷ rest) may =
      let after : List Object = map empty_object rest in
      let apart : Apart o.id done =
      All-weaker (λ (x : Object). All (λ (id : ℕ). x.id < id) (object_ids (o ∷ rest))) (λ (x : Object). x.id ≢ o.id)
      (λ x low is. let less : x.id < o.id = All-head (λ (id : ℕ). x.id < id) o.id (object_ids rest) low in absurd (omega arith)) done may.below in
      let ids_same : map id_of done ++ o.id ∷ map id_of after ≡ all = ap (λ (xs : List ℕ). map id_of done ++ o.id ∷ xs) (ids-empty_object rest) ∙ may.same in
      let refers = All-head (Refers all) o rest may.refer in
      let stored = slots_stored t done after o apart (apart_emptied o.id rest (rising_head o rest may.rising)) all ids_same [] o.slots refers in
      let later = objects_stored (done ++ full o ∷ []) rest (first_stored done o rest may) in
      then_events (bare_heap (with_objects t (done ++ empty_object o ∷ after))) (bare_heap (with_objects t (done ++ full o ∷ after))) (stores_of o) (flat_map stores_of rest) stored
      ∙ ap (λ (xs : List Object). run_of (bare_heap (with_objects t xs)) (flat_map stores_of rest)) (sym (append_assoc done (full o ∷ []) after))
      ∙ later
      ∙ ap (λ (xs : List Object). Ok (bare_heap (with_objects t xs))) (append_assoc done (full o ∷ []) (map full rest))

-- ---- roots

abbrev Roots : Type 0
Roots = List (List ℕ × ℕ)

abbrev with_roots : Table → Roots → Table
with_roots t roots = record t { roots = roots }

insert_last : (roots : Roots) (name : List ℕ) (id : ℕ) → All (λ (r : List ℕ × ℕ). name_cmp r.0 name ≡ Less) roots → insert_entry name_cmp roots name id ≡ roots ++ (name, id) ∷ []
insert_last [] name id below = refl
insert_last (r ∷ roots) name id below =
    let less : name_cmp r.0 name ≡ Less = All-head (λ (r : List ℕ × ℕ). name_cmp r.0 name ≡ Less) r roots below in
    let greater : name_cmp name r.0 ≡ Greater = nat_list_cmp_total.antisymm name r.0 ∙ ap ordering_reverse less in
    ap (λ (o : Ordering). match_ordering o ((name, id) ∷ r ∷ roots) ((r.0, id) ∷ roots) (r ∷ insert_entry name_cmp roots name id)) greater
    ∙ ap (λ (rs : Roots). r ∷ rs) (insert_last roots name id (All-tail (λ (r : List ℕ × ℕ). name_cmp r.0 name ≡ Less) r roots below))

root_allowed : (t : Table) (name : List ℕ) (id : ℕ) → is_live t id ≡ true → length t.roots < t.most.roots → root_refusal t name (Some id) ≡ None
unfolding root_refusal
root_allowed t name id live few =
    let room : Bool → Option Refusal = λ b. refusal_where (not (is_root t name) && b) TooManyRoots in
    ap (λ (b : Bool). first_refusal (refusal_where (not b) (NotLive id)) (room (leb t.most.roots (length t.roots)))) live
    ∙ ap room (lt-leb t.most.roots (length t.roots) few)
    ∙ ap (λ (b : Bool). refusal_where b TooManyRoots) (and_false (not (is_root t name)))
  where
    and_false : (b : Bool) → (b && false) ≡ false
    and_false true = refl
    and_false false = refl

root_one : (t : Table) (roots : Roots) (name : List ℕ) (id : ℕ) → is_live (with_roots t roots) id ≡ true → length roots < t.most.roots → All (λ (r : List ℕ × ℕ). name_cmp r.0 name ≡ Less) roots
    → step (bare_heap (with_roots t roots)) (Root name (Some id)) ≡ Ok (bare_heap (with_roots t (roots ++ (name, id) ∷ [])))
unfolding step with_root
root_one t roots name id live few below =
    ap (λ (o : Option Refusal). heap_unless o (bare_heap (with_roots t (insert_entry name_cmp roots name id)))) (root_allowed (with_roots t roots) name id live few)
    ∙ ap (λ (rs : Roots). Ok (bare_heap (with_roots t rs))) (insert_last roots name id below)

roots_set : (t : Table) (done rest : Roots) → All (λ (r : List ℕ × ℕ). is_live t r.1 ≡ true) rest → length done + length rest ≤ t.most.roots →
    All (λ (r : List ℕ × ℕ). All (λ (n : List ℕ). name_cmp r.0 n ≡ Less) (keys_of rest)) done → IsStrictlySortedBy name_cmp (keys_of rest)
    → run_of (bare_heap (with_roots t done)) (map root_of rest) ≡ Ok (bare_heap (with_roots t (done ++ rest)))
roots_set t done [] live few below sorted = ap (λ (rs : Roots). Ok (bare_heap (with_roots t rs))) (sym (append-nil done))
roots_set t done (r ∷ rest) live few below sorted =
    let now : Roots = done ++ r ∷ [] in
    let lower : All (λ (x : List ℕ × ℕ). name_cmp x.0 r.0 ≡ Less) done =
    All-weaker (λ (x : List ℕ × ℕ). All (λ (n : List ℕ). name_cmp x.0 n ≡ Less) (keys_of (r ∷ rest)))
    (λ (x : List ℕ × ℕ). name_cmp x.0 r.0 ≡ Less) (λ x low. All-head (λ (n : List ℕ). name_cmp x.0 n ≡ Less) r.0 (keys_of rest) low) done below in
    let here : All (λ (n : List ℕ). name_cmp r.0 n ≡ Less) (keys_of rest) =
    All-from_recursion (λ (n : List ℕ). name_cmp r.0 n ≡ Less) (keys_of rest) (sorted_head name_cmp r.0 (keys_of rest) sorted) in
    let below_now =
    All-push (λ (x : List ℕ × ℕ). All (λ (n : List ℕ). name_cmp x.0 n ≡ Less) (keys_of rest)) done r
    (All-weaker (λ (x : List ℕ × ℕ). All (λ (n : List ℕ). name_cmp x.0 n ≡ Less) (keys_of (r ∷ rest)))
    (λ (x : List ℕ × ℕ). All (λ (n : List ℕ). name_cmp x.0 n ≡ Less) (keys_of rest))
    (λ x low. All-tail (λ (n : List ℕ). name_cmp x.0 n ≡ Less) r.0 (keys_of rest) low) done below) here in
    let count : length now ≡ length done + 1 = length-append done (r ∷ []) in
    then_event (bare_heap (with_roots t done)) (bare_heap (with_roots t now)) (root_of r) (map root_of rest)
    (root_one t done r.0 r.1 (All-head (λ (r : List ℕ × ℕ). is_live t r.1 ≡ true) r rest live) (omega (arith, few)) lower)
    ∙ roots_set t now rest (All-tail (λ (r : List ℕ × ℕ). is_live t r.1 ≡ true) r rest live) (omega (arith, few, count)) below_now (sorted_tail name_cmp r.0 (keys_of rest) sorted)
    ∙ ap (λ (rs : Roots). Ok (bare_heap (with_roots t rs))) (append_assoc done (r ∷ []) rest)

-- ---- the whole

ids_above : (objects : List ObjectView) → All IsLegalObject objects → All (λ (id : ℕ). 0 < id) (object_ids objects)
ids_above [] legal = All-nil _
ids_above (o ∷ objects) legal =
    All-cons (λ (id : ℕ). 0 < id) o.id (object_ids objects) (All-head IsLegalObject o objects legal).0.0
    (ids_above objects (All-tail IsLegalObject o objects legal))

pub remakes_view : (v : HeapView) → IsWellFormed v → (h : Heap) × (heap_after (empty_heap usual_limits) (map (λ e. event e) (events_of v)) ≡ Ok h) × (heap_view h.table ≡ v)
remakes_view v formed =
    let all : List ℕ = object_ids v.objects in
    let made = alloc_all [] v.objects 0 (record {
      few = omega (arith, formed.few_objects);
      room = formed.few_slots;
      kinds = formed.few_kinds;
      above = ids_above v.objects formed.objects;
      rising = formed.ids;
    }) in
    let t : Table = table_of v.objects made.0 in
    let u : Table = with_objects t (map full v.objects) in
    let stored = objects_stored t all [] v.objects (record { below = All-nil _; rising = formed.ids; same = refl; refer = formed.slots }) in
    let live : All (λ (r : List ℕ × ℕ). is_live u r.1 ≡ true) v.roots =
    All-weaker (λ (r : List ℕ × ℕ). IsTrue (has_id all r.1)) (λ (r : List ℕ × ℕ). is_live u r.1 ≡ true)
    (λ r there. sym (has_id-ids u r.1) ∙ ap (λ (xs : List ℕ). has_id xs r.1) (ids-full v.objects) ∙ there) v.roots formed.roots in
    let rooted = roots_set u [] v.roots live (omega (arith, formed.few_roots)) (All-nil _) formed.names in
    let allocs : List Event = map alloc_of v.objects in
    let stores : List Event = flat_map stores_of v.objects in (
      bare_heap (with_roots u v.roots),
      then_events (empty_heap usual_limits) (bare_heap u) (allocs ++ stores) (map root_of v.roots) (then_events (empty_heap usual_limits) (bare_heap t) allocs stores made.1 ∙ stored) ∙ rooted,
      ap (λ (objects : List ObjectView). record { objects = objects; roots = v.roots }) (views-full v.objects),
    )
