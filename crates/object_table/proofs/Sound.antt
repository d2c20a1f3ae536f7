-- What holds of every table holds after each operation that is not refused, and after objects are freed.
use Rattle.std.proofs.Common.{◌≡◌, ℕ, ◌<◌, ◌≤◌, List, [], ◌∷◌, ◌++◌, length, map, filter, Bool, true, false, not, ◌==◌, cond, get_or, slice_set}
use Rattle.std.proofs.Common.{IsTrue, Option, None, Some, IfOk, refl, sym, ◌∙◌, subst, arith}
use Rattle.std.specs.List.{All, AllPairs, AllByRecursion, list_any, sum_by, IsDistinct}
use Rattle.std.specs.List.Sorted.{IsStrictlySortedBy}
use Rattle.std.specs.Map.{keys_of}
use Rattle.std.specs.declared.cmp.Ordering.TheVariants.{Less}
use Rattle.std.specs.Option.{IfSome}
use Rattle.std.specs.Str.{bytes_eq}
use Rattle.std.proofs.lemmas.Bool.{or_left, or_right}
use Rattle.std.proofs.lemmas.List.{length-map}
use Rattle.std.proofs.lemmas.List.Elements.{All-nil, All-map, All-filter, All-push, All-weaker, All-replicate}
use Rattle.std.proofs.lemmas.List.Folds.{list_any-append}
use Rattle.std.proofs.lemmas.List.Kept.{AllPairs-filter}
use Rattle.std.proofs.lemmas.List.Sums.{sum_by-cons}
use Rattle.std.proofs.lemmas.Map.Keys.{IsDistinct-push}
use Rattle.heap_base.specs.declared.limits.TheConstants.{MOST_THREADS}
use Rattle.graph_meaning.specs.declared.event.Event.{Event}
use Rattle.graph_meaning.specs.declared.event.Event.TheVariants.{Alloc, Store, SetWeak, Root, AssertInstances}
use Rattle.graph_meaning.specs.declared.refusal.Refusal.{Refusal}
use Rattle.heap_base.specs.Limits.{ArePossible}
use Rattle.heap_base.specs.declared.limits.Limits.{Limits}
use Rattle.graph_meaning.specs.Heap.{Slot, Object, Table, Heap, empty_slot, empty_table, empty_heap, name_cmp, ids, is_live, is_seen, slot_count}
use Rattle.graph_meaning.specs.Reach.{has_id}
use Rattle.graph_meaning.specs.Assertions.{root_ids}
use Rattle.graph_meaning.specs.Collecting.{slot_without, object_without, with_only, cut_off}
use Rattle.graph_meaning.specs.Step.{slot_made_weak, alloc_refusal, slot_refusal, store_refusal, root_refusal, kind_refusal, with_object, with_kind}
use Rattle.graph_meaning.specs.Step.{with_slot, with_changed_slot, slot_holding, with_root, heap_unless, step}
use Rattle.graph_meaning.specs.Laws.{AllLive, HoldsLive, RefersToLive, IdsRise, IsOrdered, IsWithinLimits}
use Rattle.graph_meaning.proofs.Membership.{length-filter_le, map-filter}
use Rattle.graph_meaning.proofs.HeapLemmas.{is_live-with_only, is_live-cut_off}
use Rattle.graph_meaning.proofs.Keeping.{heaps_refer_to_live}
use Rattle.graph_meaning.proofs.Orders.{limits_are_kept}
use Rattle.graph_meaning.proofs.Rising.{ids_always_rise, ids-with_only, ids-cut_off}
use Rattle.object_table.specs.Placed.{IsSound, LeadsToKept}
use Rattle.object_table.proofs.Positions.{bytes_eq-refl, bytes_eq-equivalence, distinct_none}

-- the heap with this table, where nothing is asserted
abbrev heap_with : Table → Heap
heap_with t = record (empty_heap t.most) { table = t }

-- what the laws of heaps ask of it
refers : (t : Table) → IsSound t → RefersToLive (heap_with t)
refers t sound = record {
  roots = sound.roots;
  slots = sound.slots;
  dead = All-nil (λ id. IsTrue (is_live t id));
  unshared = All-nil (λ id. IsTrue (is_live t id));
  regions = All-replicate (All (AllLive t)) MOST_THREADS [] (All-nil (AllLive t));
  ownees = All-nil (λ id. IsTrue (is_live t id));
}

limited : (t : Table) → IsSound t → IsOrdered (heap_with t) × IsWithinLimits t
limited t sound =
    (record { roots = sound.names; dead = (limits_are_kept.0 t.most sound.limits.possible).0.dead; unshared = (limits_are_kept.0 t.most sound.limits.possible).0.unshared; limits = (limits_are_kept.0 t.most sound.limits.possible).0.limits; owners = (limits_are_kept.0 t.most sound.limits.possible).0.owners }, sound.limits)

-- what holds after an operation holds of the heap that it leaves where it is not refused
allowed : (P : Heap → Type 0) (refusal : Option Refusal) (h : Heap) → refusal ≡ None → IfOk (heap_unless refusal h) P → P h
allowed P None h none holds = holds
allowed P (Some r) h none holds = absurd cc

-- What the laws of heaps say of the heap that an operation leaves.
record IsLeft (h : Heap) : Type 0 where
  ids : IdsRise h.table
  live : RefersToLive h
  ordered : IsOrdered h
  limits : IsWithinLimits h.table

left_by : (t : Table) (event : Event) (refusal : Option Refusal) (h : Heap) → IsSound t → refusal ≡ None → step (heap_with t) event ≡ heap_unless refusal h → IsLeft h
left_by t event refusal h sound none is =
    let kept = allowed (λ g. IsOrdered g × IsWithinLimits g.table) refusal h none
    (subst (λ r. IfOk r (λ g. IsOrdered g × IsWithinLimits g.table)) is (limits_are_kept.1 (heap_with t) event (limited t sound))) in
    record {
      ids = allowed (λ g. IdsRise g.table) refusal h none (subst (λ r. IfOk r (λ g. IdsRise g.table)) is (ids_always_rise.1 (heap_with t) event sound.ids));
      live = allowed RefersToLive refusal h none (subst (λ r. IfOk r RefersToLive) is (heaps_refer_to_live.1 (heap_with t) event (refers t sound)));
      ordered = kept.0;
      limits = kept.1;
    }

-- ---- type names

pub distinct_with_kind : (kinds : List (List ℕ)) (kind : List ℕ) → IsDistinct bytes_eq kinds → IsDistinct bytes_eq (with_kind kinds kind)
distinct_with_kind kinds kind distinct = go (is_seen kinds kind) refl
  where
    go : (b : Bool) → is_seen kinds kind ≡ b → IsDistinct bytes_eq (cond b kinds (kinds ++ kind ∷ []))
    go true seen = distinct
    go false new = IsDistinct-push bytes_eq-equivalence kinds kind distinct new

-- a type that was seen stays so
seen_with_kind : (kinds : List (List ℕ)) (kind name : List ℕ) → IsTrue (is_seen kinds name) → IsTrue (is_seen (with_kind kinds kind) name)
seen_with_kind kinds kind name seen = go (is_seen kinds kind)
  where
    go : (b : Bool) → list_any (bytes_eq name) (cond b kinds (kinds ++ kind ∷ [])) ≡ true
    go true = seen
    go false = list_any-append (bytes_eq name) kinds (kind ∷ []) ∙ or_left _ _ seen

-- and the new one is
seen_itself : (kinds : List (List ℕ)) (kind : List ℕ) → IsTrue (is_seen (with_kind kinds kind) kind)
seen_itself kinds kind = go (is_seen kinds kind) refl
  where
    go : (b : Bool) → is_seen kinds kind ≡ b → list_any (bytes_eq kind) (cond b kinds (kinds ++ kind ∷ [])) ≡ true
    go true seen = seen
    go false new = list_any-append (bytes_eq kind) kinds (kind ∷ []) ∙ or_right _ _ (or_left _ _ (bytes_eq-refl kind))

-- ---- each operation

pub sound_nothing : (most : Limits) → ArePossible most → IsSound (empty_table most)
sound_nothing most possible = record {
  ids = ids_always_rise.0 most possible;
  kinds = distinct_none;
  seen = All-nil (λ o. IsTrue (is_seen [] o.kind));
  names = (limits_are_kept.0 most possible).0.roots;
  roots = All-nil (λ id. IsTrue (is_live (empty_table most) id));
  slots = All-nil (λ o. All (HoldsLive (empty_table most)) o.slots);
  limits = (limits_are_kept.0 most possible).1;
}

pub sound_with_object : (t : Table) (id : ℕ) (kind : List ℕ) (slots : ℕ) → IsSound t → alloc_refusal t id kind slots ≡ None → IsSound (with_object t id kind slots)
unfolding step with_object
sound_with_object t id kind slots sound none =
    let left = left_by t (Alloc id kind slots 0) _ _ sound none refl in
    record {
      ids = left.ids;
      kinds = distinct_with_kind t.kinds kind sound.kinds;
      seen =
          All-push (λ o. IsTrue (is_seen (with_kind t.kinds kind) o.kind)) t.objects _
          (All-weaker (λ o. IsTrue (is_seen t.kinds o.kind)) (λ o. IsTrue (is_seen (with_kind t.kinds kind) o.kind))
          (λ o. seen_with_kind t.kinds kind o.kind) t.objects sound.seen) (seen_itself t.kinds kind);
      names = sound.names;
      roots = left.live.roots;
      slots = left.live.slots;
      limits = left.limits;
    }

-- a change to a slot changes no type
kind-with_slot : (at slot : ℕ) (change : Slot → Slot) (o : Object) → (with_slot at slot change o).kind ≡ o.kind
kind-with_slot at slot change o = go (o.id == at)
  where
    go : (b : Bool) → (cond b (record o { slots = slice_set o.slots slot (change (get_or o.slots slot empty_slot)) }) o).kind ≡ o.kind
    go true = refl
    go false = refl

-- a change to a slot that keeps what it holds live
sound_with_change : (t : Table) (at slot : ℕ) (change : Slot → Slot) → IsSound t → IsLeft (heap_with (with_changed_slot t at slot change)) →
    IsSound (with_changed_slot t at slot change)
unfolding with_changed_slot
sound_with_change t at slot change sound left = record {
  ids = left.ids;
  kinds = sound.kinds;
  seen =
      All-map (λ o. IsTrue (is_seen t.kinds o.kind)) (with_slot at slot change) t.objects
      (All-weaker (λ o. IsTrue (is_seen t.kinds o.kind)) (λ o. IsTrue (is_seen t.kinds (with_slot at slot change o).kind))
      (λ o seen. subst (λ kind. IsTrue (is_seen t.kinds kind)) (sym (kind-with_slot at slot change o)) seen) t.objects sound.seen);
  names = sound.names;
  roots = left.live.roots;
  slots = left.live.slots;
  limits = left.limits;
}

pub sound_with_store : (t : Table) (at slot : ℕ) (to : Option ℕ) → IsSound t → store_refusal t at slot to ≡ None → IsSound (with_changed_slot t at slot (slot_holding to))
unfolding step
sound_with_store t at slot to sound none = sound_with_change t at slot (slot_holding to) sound (left_by t (Store at slot to) _ _ sound none refl)

pub sound_with_weak : (t : Table) (at slot : ℕ) (weak : Bool) → IsSound t → slot_refusal t at slot ≡ None → IsSound (with_changed_slot t at slot (slot_made_weak weak))
unfolding step
sound_with_weak t at slot weak sound none = sound_with_change t at slot (slot_made_weak weak) sound (left_by t (SetWeak at slot weak) _ _ sound none refl)

distinct_with_root : (t : Table) (name : List ℕ) (to : Option ℕ) → IsDistinct bytes_eq t.kinds → IsDistinct bytes_eq (with_root t name to).kinds
unfolding with_root
distinct_with_root t name None distinct = distinct
distinct_with_root t name (Some id) distinct = distinct

seen_with_root : (t : Table) (name : List ℕ) (to : Option ℕ) → All (λ o. IsTrue (is_seen t.kinds o.kind)) t.objects →
    All (λ o. IsTrue (is_seen (with_root t name to).kinds o.kind)) (with_root t name to).objects
unfolding with_root
seen_with_root t name None seen = seen
seen_with_root t name (Some id) seen = seen

pub sound_with_root : (t : Table) (name : List ℕ) (to : Option ℕ) → IsSound t → root_refusal t name to ≡ None → IsSound (with_root t name to)
unfolding step
sound_with_root t name to sound none =
    let left = left_by t (Root name to) _ _ sound none refl in
    record {
      ids = left.ids;
      kinds = distinct_with_root t name to sound.kinds;
      seen = seen_with_root t name to sound.seen;
      names = left.ordered.roots;
      roots = left.live.roots;
      slots = left.live.slots;
      limits = left.limits;
    }

pub sound_with_kind : (t : Table) (kind : List ℕ) → IsSound t → kind_refusal t kind ≡ None → IsSound (record t { kinds = with_kind t.kinds kind })
unfolding step
sound_with_kind t kind sound none =
    let left = left_by t (AssertInstances kind 0) _ _ sound none refl in
    record {
      ids = record { rising = sound.ids.rising; within = sound.ids.within };
      kinds = distinct_with_kind t.kinds kind sound.kinds;
      seen = All-weaker (λ o. IsTrue (is_seen t.kinds o.kind)) (λ o. IsTrue (is_seen (with_kind t.kinds kind) o.kind)) (λ o. seen_with_kind t.kinds kind o.kind) t.objects sound.seen;
      names = sound.names;
      roots = sound.roots;
      slots = sound.slots;
      limits = left.limits;
    }

-- ---- freed objects

-- a slot that is not emptied holds what is kept
kept_slot : (t : Table) (kept : List ℕ) (s : Slot) → HoldsLive t s → HoldsLive (with_only kept t) (slot_without (λ id. not (has_id kept id)) s)
kept_slot t kept s held = go s.held held
  where
    by : (id : ℕ) (b : Bool) → has_id kept id ≡ b → IsTrue (is_live t id) →
        IfSome (cond (not b) (record s { held = None }) (record s { held = Some id })).held (λ x. IsTrue (is_live (with_only kept t) x))
    by id true at live = is_live-with_only kept t id ∙ rw (at, live) refl
    by id false out live = tt

    go : (o : Option ℕ) → IfSome o (λ id. IsTrue (is_live t id)) → HoldsLive (with_only kept t) (slot_without (λ id. not (has_id kept id)) (record s { held = o }))
    go None held = tt
    go (Some id) held = by id (has_id kept id) refl held

-- no more slots than before
fewer_slots : (gone : ℕ → Bool) (p : Object → Bool) (objects : List Object) → sum_by (λ o. length o.slots) (map (object_without gone) (filter p objects)) ≤ sum_by (λ o. length o.slots) objects
fewer_slots gone p [] = omega arith
fewer_slots gone p (o ∷ objects) = go (p o) (fewer_slots gone p objects)
  where
    go : (b : Bool) → sum_by (λ u. length u.slots) (map (object_without gone) (filter p objects)) ≤ sum_by (λ u. length u.slots) objects →
        sum_by (λ u. length u.slots) (map (object_without gone) (cond b (o ∷ filter p objects) (filter p objects))) ≤ sum_by (λ u. length u.slots) (o ∷ objects)
    go true rest =
        let before = sum_by-cons (λ (u : Object). length u.slots) o objects in
        let after = sum_by-cons (λ (u : Object). length u.slots) (object_without gone o) (map (object_without gone) (filter p objects)) in
        let same = length-map o.slots (slot_without gone) in
        omega arith
    go false rest = let before = sum_by-cons (λ (u : Object). length u.slots) o objects in omega arith

pub sound_with_only : (t : Table) (kept : List ℕ) → IsSound t → LeadsToKept t kept → IsSound (with_only kept t)
unfolding with_only
sound_with_only t kept sound leads =
    let p : Object → Bool = λ o. has_id kept o.id in
    let gone : ℕ → Bool = λ id. not (has_id kept id) in
    let slots = fewer_slots gone p t.objects in
    let objects = length-filter_le p t.objects in
    let same = length-map (filter p t.objects) (object_without gone) in
    let limits = sound.limits in
    record {
      ids = record {
        rising = subst (AllPairs (λ x y. x < y)) (sym (ids-with_only kept t)) (AllPairs-filter (λ x y. x < y) (has_id kept) (ids t) sound.ids.rising);
        within = subst (All (λ id. id ≤ t.greatest)) (sym (ids-with_only kept t)) (All-filter (has_id kept) (λ id. id ≤ t.greatest) (ids t) sound.ids.within);
      };
      kinds = sound.kinds;
      seen = All-map (λ o. IsTrue (is_seen t.kinds o.kind)) (object_without gone) (filter p t.objects) (All-filter p (λ o. IsTrue (is_seen t.kinds o.kind)) t.objects sound.seen);
      names = sound.names;
      roots = λ k d h. is_live-with_only kept t _ ∙ rw (root_kept k d h, sound.roots k d h) refl;
      slots =
          All-map (λ o. All (HoldsLive (with_only kept t)) o.slots) (object_without gone) (filter p t.objects)
          (All-filter p (λ o. All (HoldsLive (with_only kept t)) (object_without gone o).slots) t.objects
          (λ k d h. All-map (HoldsLive (with_only kept t)) (slot_without gone) (get_or t.objects k d).slots
          (All-weaker (HoldsLive t) (λ s. HoldsLive (with_only kept t) (slot_without gone s)) (kept_slot t kept) (get_or t.objects k d).slots
          (sound.slots k d h))));
      limits = record { possible = limits.possible; objects = omega arith; slots = omega arith; roots = limits.roots; kinds = limits.kinds };
    }
  where
    root_kept : (k d : ℕ) → k < length (root_ids t) → has_id kept (get_or (root_ids t) k d) ≡ true
    root_kept = All-map (λ id. IsTrue (has_id kept id)) (λ r. r.1) t.roots leads.by_roots

-- ---- slots and roots that are cleared

-- the names of the roots that are left, by what they hold
names_left : (stays : ℕ → Bool) (roots : List (List ℕ × ℕ)) → List (List ℕ)
names_left stays roots = keys_of (filter (λ r. stays r.1) roots)

below_left : (stays : ℕ → Bool) (name : List ℕ) (roots : List (List ℕ × ℕ)) → AllByRecursion (λ y. name_cmp name y ≡ Less) (keys_of roots) →
    AllByRecursion (λ y. name_cmp name y ≡ Less) (names_left stays roots)
unfolding names_left
below_left stays name [] below = tt
below_left stays name (r ∷ roots) below = go (stays r.1) (below_left stays name roots below.1)
  where
    go : (b : Bool) → AllByRecursion (λ y. name_cmp name y ≡ Less) (names_left stays roots) →
        AllByRecursion (λ y. name_cmp name y ≡ Less) (keys_of (cond b (r ∷ filter (λ q. stays q.1) roots) (filter (λ q. stays q.1) roots)))
    go true rest = (below.0, rest)
    go false rest = rest

sorted_left : (stays : ℕ → Bool) (roots : List (List ℕ × ℕ)) → IsStrictlySortedBy name_cmp (keys_of roots) → IsStrictlySortedBy name_cmp (names_left stays roots)
unfolding IsStrictlySortedBy names_left
sorted_left stays [] sorted = tt
sorted_left stays (r ∷ roots) sorted = go (stays r.1) (sorted_left stays roots sorted.1)
  where
    go : (b : Bool) → IsStrictlySortedBy name_cmp (names_left stays roots) → IsStrictlySortedBy name_cmp (keys_of (cond b (r ∷ filter (λ q. stays q.1) roots) (filter (λ q. stays q.1) roots)))
    go true rest = (below_left stays r.0 roots sorted.0, rest)
    go false rest = rest

-- a slot holds what it held, or nothing
cleared_slot : (t : Table) (gone : ℕ → Bool) (s : Slot) → HoldsLive t s → HoldsLive (cut_off gone t) (slot_without gone s)
cleared_slot t gone s held = go s.held held
  where
    by : (id : ℕ) (b : Bool) → IsTrue (is_live t id) → IfSome (cond b (record s { held = None }) (record s { held = Some id })).held (λ x. IsTrue (is_live (cut_off gone t) x))
    by id true live = tt
    by id false live = is_live-cut_off gone t id ∙ live

    go : (o : Option ℕ) → IfSome o (λ id. IsTrue (is_live t id)) → HoldsLive (cut_off gone t) (slot_without gone (record s { held = o }))
    go None held = tt
    go (Some id) held = by id (gone id) held

-- as many slots as before
pub slot_count-cut_off : (gone : ℕ → Bool) (t : Table) → slot_count (cut_off gone t) ≡ slot_count t
slot_count-cut_off gone t = go t.objects
  where
    go : (objects : List Object) → sum_by (λ o. length o.slots) (map (object_without gone) objects) ≡ sum_by (λ o. length o.slots) objects
    go [] = refl
    go (o ∷ objects) =
        let rest = go objects in
        let after = sum_by-cons (λ (u : Object). length u.slots) (object_without gone o) (map (object_without gone) objects) in
        let before = sum_by-cons (λ (u : Object). length u.slots) o objects in
        let same = length-map o.slots (slot_without gone) in
        omega arith

pub sound_cut_off : (t : Table) (gone : ℕ → Bool) → IsSound t → IsSound (cut_off gone t)
unfolding names_left
sound_cut_off t gone sound =
    let stays : ℕ → Bool = λ id. not (gone id) in
    let same = length-map t.objects (object_without gone) in
    let fewer = length-filter_le (λ (r : List ℕ × ℕ). stays r.1) t.roots in
    let limits = sound.limits in
    record {
      ids = record {
        rising = subst (AllPairs (λ x y. x < y)) (sym (ids-cut_off gone t)) sound.ids.rising;
        within = subst (All (λ id. id ≤ t.greatest)) (sym (ids-cut_off gone t)) sound.ids.within;
      };
      kinds = sound.kinds;
      seen = All-map (λ o. IsTrue (is_seen t.kinds o.kind)) (object_without gone) t.objects sound.seen;
      names = sorted_left stays t.roots sound.names;
      roots =
          subst (All (λ id. IsTrue (is_live (cut_off gone t) id))) (sym (map-filter stays (λ r. r.1) t.roots))
          (All-filter stays (λ id. IsTrue (is_live (cut_off gone t) id)) (root_ids t)
          (All-weaker (λ id. IsTrue (is_live t id)) (λ id. IsTrue (is_live (cut_off gone t) id)) (λ id live. is_live-cut_off gone t id ∙ live)
          (root_ids t) sound.roots));
      slots =
          All-map (λ o. All (HoldsLive (cut_off gone t)) o.slots) (object_without gone) t.objects
          (λ k d h. All-map (HoldsLive (cut_off gone t)) (slot_without gone) (get_or t.objects k d).slots
          (All-weaker (HoldsLive t) (λ s. HoldsLive (cut_off gone t) (slot_without gone s)) (cleared_slot t gone) (get_or t.objects k d).slots
          (sound.slots k d h)));
      limits = record { possible = limits.possible; objects = omega arith; slots = omega (arith, slot_count-cut_off gone t); roots = omega arith; kinds = limits.kinds };
    }
