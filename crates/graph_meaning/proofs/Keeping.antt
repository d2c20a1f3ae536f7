-- Whatever a heap refers to is live, whatever operations and collections there were; and what a collection keeps.
use Rattle.std.proofs.Common.{◌≡◌, ℕ, Bool, true, false, not, ◌&&◌, cond, ⊎_elim, List, [], ◌∷◌, ◌++◌, length, filter, map, get_or, fold, sym, ap}
use Rattle.std.proofs.Common.{refl, subst, ◌∙◌, arith, IsTrue, All, eq-eqb, slice_set, ◌==◌, Option, None, Some, IfOk}
use Rattle.std.specs.Option.{option_map_or, IfSome}
use Rattle.std.specs.Ordering.{nat_cmp}
use Rattle.std.specs.BTreeMap.{is_at}
use Rattle.std.specs.BTreeSet.{insert_key}
use Rattle.std.proofs.lemmas.Bool.{cases_lt, or_left, or_right}
use Rattle.std.proofs.lemmas.List.{get_or_past, get_or-map, length-map}
use Rattle.std.proofs.lemmas.List.Elements.{All-nil, All-cons, All-head, All-tail, All-weaker, All-filter, All-map, All-set, All-drop, All-push, All-replicate, Contains-get_or, filter_passes}
use Rattle.std.proofs.lemmas.Map.Views.{All-insert_key, All-keys-insert_entry, All-values-insert_entry, All-map-remove_entry}
use Rattle.heap_base.specs.declared.limits.TheConstants.{MOST_THREADS}
use Rattle.graph_meaning.specs.declared.event.Event.{Event}
use Rattle.graph_meaning.specs.declared.event.Event.TheVariants.{Alloc, Store, SetWeak, Root, AssertDead, StartRegion, AssertAllDead, AssertInstances, AssertUnshared, AssertOwnedBy, Collect}
use Rattle.graph_meaning.specs.declared.refusal.Refusal.{Refusal}
use Rattle.graph_meaning.specs.declared.refusal.Refusal.TheVariants.{NotLive}
use Rattle.graph_meaning.specs.Reach.{has_id}
use Rattle.heap_base.specs.declared.limits.Limits.{Limits}
use Rattle.graph_meaning.specs.Heap.{Slot, Object, Table, Heap, empty_heap, empty_slot, empty_table, ids, is_live, regions_of, name_cmp}
use Rattle.graph_meaning.specs.Assertions.{root_ids, is_traced, traced_ids}
use Rattle.graph_meaning.specs.Collecting.{Rules, slot_without, object_without, with_only, after_sweep, ids_to_clear, after_collection}
use Rattle.graph_meaning.specs.Step.{first_refusal, refusal_where, not_live, target_refusal, store_refusal, root_refusal, with_object, with_slot}
use Rattle.graph_meaning.specs.Step.{with_changed_slot, slot_holding, slot_made_weak, with_root, with_member, heap_unless, step}
use Rattle.graph_meaning.specs.Laws.{AllLive, HoldsLive, RefersToLive, HeapsReferToLive, KeepsTraced}
use Rattle.graph_meaning.proofs.Membership.{map-filter, has_id-filter, has_id-Contains}
use Rattle.graph_meaning.proofs.HeapLemmas.{has_id-ids, is_live-with_object, is_live-with_change, is_live-with_only, is_live-cut_off}
use Rattle.graph_meaning.proofs.Tracing.{traced_from_root, traced_node}

-- ---- what a refusal that isn't there says

pub first_of-None : (a b : Option Refusal) → first_refusal a b ≡ None → (a ≡ None) × (b ≡ None)
first_of-None None b none = (refl, none)
first_of-None (Some r) b none = absurd (cc)

pub refusal_where-None : (b : Bool) (r : Refusal) → refusal_where b r ≡ None → b ≡ false
refusal_where-None true r none = absurd (cc)
refusal_where-None false r none = refl

-- an id that isn't refused is live
pub not_live-None : (t : Table) (id : ℕ) → not_live t id ≡ None → IsTrue (is_live t id)
not_live-None t id none = go (is_live t id) none
  where
    go : (b : Bool) → refusal_where (not b) (NotLive id) ≡ None → b ≡ true
    go true none = refl
    go false none = absurd (cc)

-- what a slot may hold is live
pub target_refusal-None : (t : Table) (to : Option ℕ) → target_refusal t to ≡ None → IfSome to (λ id. IsTrue (is_live t id))
target_refusal-None t None none = tt
target_refusal-None t (Some id) none = not_live-None t id none

pub store_refusal-None : (t : Table) (at slot : ℕ) (to : Option ℕ) → store_refusal t at slot to ≡ None → target_refusal t to ≡ None
unfolding store_refusal
store_refusal-None t at slot to none = (first_of-None _ _ none).1

-- what holds of the heap that an operation leaves where it isn't refused
pub IfOk-unless : (P : Heap → Type 0) (refusal : Option Refusal) (h : Heap) → (refusal ≡ None → P h) → IfOk (heap_unless refusal h) P
IfOk-unless P None h holds = holds refl
IfOk-unless P (Some r) h holds = tt

-- ---- what stays live

module _ (t u : Table) (more : (id : ℕ) → IsTrue (is_live t id) → IsTrue (is_live u id)) where
  AllLive-more : (xs : List ℕ) → AllLive t xs → AllLive u xs
  AllLive-more xs live = All-weaker (λ id. IsTrue (is_live t id)) (λ id. IsTrue (is_live u id)) more xs live

  regions-more : (rs : List (List (List ℕ))) → All (All (AllLive t)) rs → All (All (AllLive u)) rs
  regions-more rs live =
      All-weaker (All (AllLive t)) (All (AllLive u)) (λ stack. All-weaker (AllLive t) (AllLive u) AllLive-more stack) rs live

  HoldsLive-more : (s : Slot) → HoldsLive t s → HoldsLive u s
  HoldsLive-more s live = go s.held live
    where
      go : (o : Option ℕ) → IfSome o (λ id. IsTrue (is_live t id)) → IfSome o (λ id. IsTrue (is_live u id))
      go None live = tt
      go (Some id) live = more id live

  slots-more : (objects : List Object) → All (λ o. All (HoldsLive t) o.slots) objects → All (λ o. All (HoldsLive u) o.slots) objects
  slots-more objects live =
      All-weaker (λ o. All (HoldsLive t) o.slots) (λ o. All (HoldsLive u) o.slots) (λ o. All-weaker (HoldsLive t) (HoldsLive u) HoldsLive-more o.slots) objects live

-- the open regions of a thread
pub regions_of-live : (t : Table) (rs : List (List (List ℕ))) (thread : ℕ) → All (All (AllLive t)) rs → All (AllLive t) (regions_of rs thread)
regions_of-live t rs thread live =
    ⊎_elim
    (λ within. live thread [] within)
    (λ past. subst (All (AllLive t)) (sym (get_or_past rs thread [] past)) (All-nil (AllLive t)))
    (cases_lt thread (length rs))

innermost-live : (t : Table) (stack : List (List ℕ)) → All (AllLive t) stack → AllLive t (get_or stack 0 [])
innermost-live t [] live = All-nil (λ id. IsTrue (is_live t id))
innermost-live t (r ∷ rs) live = live 0 [] (omega arith)

keys_live-fold : (t : Table) (xs dead : List ℕ) → AllLive t xs → AllLive t dead → AllLive t (fold (insert_key nat_cmp) dead xs)
keys_live-fold t [] dead live before = before
keys_live-fold t (x ∷ xs) dead live before =
    keys_live-fold t xs (insert_key nat_cmp dead x) (All-tail (λ id. IsTrue (is_live t id)) x xs live)
    (All-insert_key nat_cmp x (λ id. IsTrue (is_live t id)) dead before (All-head (λ id. IsTrue (is_live t id)) x xs live))

with_member-live : (t : Table) (rs : List (List (List ℕ))) (thread id : ℕ) → IsTrue (is_live t id) → All (All (AllLive t)) rs → All (All (AllLive t)) (with_member rs thread id)
with_member-live t rs thread id new live =
    All-set (All (AllLive t)) rs thread _
    (All-map (AllLive t) (λ r. r ++ id ∷ []) (regions_of rs thread)
    (All-weaker (AllLive t) (λ r. AllLive t (r ++ id ∷ [])) (λ r old. All-push (λ i. IsTrue (is_live t i)) r id old new) (regions_of rs thread)
    (regions_of-live t rs thread live))) live

-- ---- each operation

alloc_keeps : (h : Heap) (id : ℕ) (kind : List ℕ) (slots thread : ℕ) → RefersToLive h → RefersToLive (record h { table = with_object h.table id kind slots; regions = with_member h.regions thread id })
unfolding with_object
alloc_keeps h id kind slots thread live =
    let t = h.table in
    let u = with_object t id kind slots in
    let more = λ (x : ℕ) (old : IsTrue (is_live t x)). is_live-with_object t id kind slots x ∙ or_left _ (id == x) old in
    record {
      roots = AllLive-more t u more (root_ids t) live.roots;
      slots = All-push (λ o. All (HoldsLive u) o.slots) t.objects _ (slots-more t u more t.objects live.slots) (All-replicate (HoldsLive u) slots empty_slot tt);
      dead = AllLive-more t u more h.dead live.dead;
      unshared = AllLive-more t u more h.unshared live.unshared;
      regions = with_member-live u h.regions thread id (is_live-with_object t id kind slots id ∙ or_right _ _ (eq-eqb id id refl)) (regions-more t u more h.regions live.regions);
      ownees = AllLive-more t u more _ live.ownees;
    }

-- a change to a slot after which it holds nothing or a live object
change_keeps : (h : Heap) (at slot : ℕ) (change : Slot → Slot) → ((s : Slot) → HoldsLive h.table s → HoldsLive h.table (change s)) →
    RefersToLive h → RefersToLive (record h { table = with_changed_slot h.table at slot change })
unfolding with_changed_slot
change_keeps h at slot change holds live =
    let t = h.table in
    let u = with_changed_slot t at slot change in
    let more = λ (x : ℕ) (old : IsTrue (is_live t x)). is_live-with_change t at slot change x ∙ old in
    record {
      roots = AllLive-more t u more (root_ids t) live.roots;
      slots =
          slots-more t u more u.objects
          (All-map (λ o. All (HoldsLive t) o.slots) (with_slot at slot change) t.objects
          (All-weaker (λ o. All (HoldsLive t) o.slots) (λ o. All (HoldsLive t) (with_slot at slot change o).slots)
          (λ o old. changed o (o.id == at) old) t.objects live.slots));
      dead = AllLive-more t u more h.dead live.dead;
      unshared = AllLive-more t u more h.unshared live.unshared;
      regions = regions-more t u more h.regions live.regions;
      ownees = AllLive-more t u more _ live.ownees;
    }
  where
    slot_at : (slots : List Slot) → All (HoldsLive h.table) slots → HoldsLive h.table (get_or slots slot empty_slot)
    slot_at slots old =
        ⊎_elim
        (λ within. old slot empty_slot within)
        (λ past. subst (HoldsLive h.table) (sym (get_or_past slots slot empty_slot past)) tt)
        (cases_lt slot (length slots))

    changed : (o : Object) (b : Bool) → All (HoldsLive h.table) o.slots →
        All (HoldsLive h.table) (cond b (record o { slots = slice_set o.slots slot (change (get_or o.slots slot empty_slot)) }) o).slots
    changed o true old = All-set (HoldsLive h.table) o.slots slot _ (holds _ (slot_at o.slots old)) old
    changed o false old = old

root_keeps : (h : Heap) (name : List ℕ) (to : Option ℕ) → root_refusal h.table name to ≡ None → RefersToLive h → RefersToLive (record h { table = with_root h.table name to })
unfolding with_root root_refusal
root_keeps h name None none live = record {
  roots = All-map-remove_entry (is_at (name_cmp name)) (λ r. r.1) (λ id. IsTrue (is_live h.table id)) h.table.roots live.roots;
  slots = live.slots;
  dead = live.dead;
  unshared = live.unshared;
  regions = live.regions;
  ownees = live.ownees;
}
root_keeps h name (Some id) none live = record {
  roots = All-values-insert_entry name_cmp name id (λ x. IsTrue (is_live h.table x)) h.table.roots live.roots (not_live-None h.table id (first_of-None _ _ none).0);
  slots = live.slots;
  dead = live.dead;
  unshared = live.unshared;
  regions = live.regions;
  ownees = live.ownees;
}

-- an operation that leaves the table as it is
assertion_keeps : (h : Heap) (dead unshared : List ℕ) (regions : List (List (List ℕ))) (limits : List (List ℕ × ℕ)) (owners : List (ℕ × ℕ)) →
    AllLive h.table dead → AllLive h.table unshared → All (All (AllLive h.table)) regions → AllLive h.table (map (λ o. o.0) owners) →
    RefersToLive h →
    RefersToLive (record { table = h.table; dead = dead; unshared = unshared; regions = regions; limits = limits; owners = owners })
assertion_keeps h dead unshared regions limits owners dead_live unshared_live regions_live owners_live live = record {
  roots = live.roots;
  slots = live.slots;
  dead = dead_live;
  unshared = unshared_live;
  regions = regions_live;
  ownees = owners_live;
}

step_keeps : (h : Heap) (event : Event) → RefersToLive h → IfOk (step h event) RefersToLive
unfolding step
step_keeps h (Alloc id kind slots thread) live = IfOk-unless RefersToLive _ _ (λ none. alloc_keeps h id kind slots thread live)
step_keeps h (Store at slot to) live =
    IfOk-unless RefersToLive _ _ (λ none. change_keeps h at slot (slot_holding to) (λ s old. target_refusal-None h.table to (store_refusal-None h.table at slot to none)) live)
step_keeps h (SetWeak at slot weak) live = IfOk-unless RefersToLive _ _ (λ none. change_keeps h at slot (slot_made_weak weak) (λ s old. old) live)
step_keeps h (Root name to) live = IfOk-unless RefersToLive _ _ (λ none. root_keeps h name to none live)
step_keeps h (AssertDead id) live =
    IfOk-unless RefersToLive _ _
    (λ none. assertion_keeps h _ h.unshared h.regions h.limits h.owners
    (All-insert_key nat_cmp id (λ x. IsTrue (is_live h.table x)) h.dead live.dead (not_live-None h.table id none)) live.unshared live.regions
    live.ownees live)
step_keeps h (StartRegion thread) live =
    IfOk-unless RefersToLive _ _
    (λ none. assertion_keeps h h.dead h.unshared _ h.limits h.owners live.dead live.unshared
    (All-set (All (AllLive h.table)) h.regions thread _
    (All-cons (AllLive h.table) [] (regions_of h.regions thread) (All-nil _) (regions_of-live h.table h.regions thread live.regions)) live.regions)
    live.ownees live)
step_keeps h (AssertAllDead thread) live =
    let opened = regions_of-live h.table h.regions thread live.regions in
    IfOk-unless RefersToLive _ _
    (λ none. assertion_keeps h _ h.unshared _ h.limits h.owners (keys_live-fold h.table _ h.dead (innermost-live h.table _ opened) live.dead)
    live.unshared (All-set (All (AllLive h.table)) h.regions thread _ (All-drop (AllLive h.table) 1 _ opened) live.regions) live.ownees live)
step_keeps h (AssertInstances kind limit) live = IfOk-unless RefersToLive _ _ (λ none. record {
  roots = live.roots;
  slots = live.slots;
  dead = live.dead;
  unshared = live.unshared;
  regions = live.regions;
  ownees = live.ownees;
})
step_keeps h (AssertUnshared id) live =
    IfOk-unless RefersToLive _ _
    (λ none. assertion_keeps h h.dead _ h.regions h.limits h.owners live.dead
    (All-insert_key nat_cmp id (λ x. IsTrue (is_live h.table x)) h.unshared live.unshared (not_live-None h.table id none)) live.regions live.ownees
    live)
step_keeps h (AssertOwnedBy owner ownee) live =
    IfOk-unless RefersToLive _ _
    (λ none. assertion_keeps h h.dead h.unshared h.regions h.limits _ live.dead live.unshared live.regions
    (All-keys-insert_entry nat_cmp ownee owner (λ x. IsTrue (is_live h.table x)) h.owners live.ownees
    (not_live-None h.table ownee (first_of-None _ _ (first_of-None _ _ none).1).0)) live)
step_keeps h Collect live = live

-- ---- a collection

-- the traced ids are those of the traced objects
pub has_id-traced_ids : (h : Heap) (id : ℕ) → has_id (traced_ids h) id ≡ is_traced h id
unfolding traced_ids
has_id-traced_ids h id = has_id-filter (is_traced h) (ids h.table) id ∙ go (is_traced h id) refl
  where
    go : (b : Bool) → is_traced h id ≡ b → (b && has_id (ids h.table) id) ≡ b
    go true at = traced_node h id at
    go false out = refl

pub keeps_traced : KeepsTraced
unfolding after_collection after_sweep
keeps_traced rules h id =
    is_live-cut_off (has_id (ids_to_clear rules h)) (with_only (traced_ids h) h.table) id
    ∙ is_live-with_only (traced_ids h) h.table id
    ∙ ap (λ b. b && is_live h.table id) (has_id-traced_ids h id)
    ∙ go (is_traced h id) refl
  where
    go : (b : Bool) → is_traced h id ≡ b → (b && is_live h.table id) ≡ b
    go true at = sym (has_id-ids h.table id) ∙ traced_node h id at
    go false out = refl

module _ (rules : Rules) (h : Heap) where
  abbrev left : Table
  left = (after_collection rules h).table

  traced_stays : (id : ℕ) → IsTrue (has_id (traced_ids h) id) → IsTrue (is_live left id)
  traced_stays id at = keeps_traced rules h id ∙ sym (has_id-traced_ids h id) ∙ at

  -- of live ids those stay live that are kept
  AllLive-kept : (xs : List ℕ) → AllLive left (filter (has_id (traced_ids h)) xs)
  AllLive-kept xs = All-weaker (λ id. has_id (traced_ids h) id ≡ true) (λ id. IsTrue (is_live left id)) traced_stays _ (filter_passes (has_id (traced_ids h)) xs)

  -- a slot that isn't emptied holds what is kept
  kept_slot : (s : Slot) → HoldsLive left (slot_without (λ id. not (has_id (traced_ids h) id)) s)
  kept_slot s = go s.held
    where
      by : (id : ℕ) (b : Bool) → has_id (traced_ids h) id ≡ b → IfSome (cond (not b) (record s { held = None }) (record s { held = Some id })).held (λ x. IsTrue (is_live left x))
      by id true at = traced_stays id at
      by id false out = tt

      go : (o : Option ℕ) → HoldsLive left (slot_without (λ id. not (has_id (traced_ids h) id)) (record s { held = o }))
      go None = tt
      go (Some id) = by id (has_id (traced_ids h) id) refl

  -- and a slot that is emptied besides holds no more
  fewer_slot : (gone : ℕ → Bool) (s : Slot) → HoldsLive left s → HoldsLive left (slot_without gone s)
  fewer_slot gone s old = go (option_map_or gone s.held false)
    where
      go : (b : Bool) → HoldsLive left (cond b (record s { held = None }) s)
      go true = tt
      go false = old

  kept_slots : (gone : ℕ → Bool) (objects : List Object) → All (λ o. All (HoldsLive left) o.slots) (map (object_without gone) (map (object_without (λ id. not (has_id (traced_ids h) id))) objects))
  kept_slots gone objects =
      let kept = object_without (λ id. not (has_id (traced_ids h) id)) in
      All-map (λ o. All (HoldsLive left) o.slots) (object_without gone) (map kept objects)
      (All-map (λ o. All (HoldsLive left) (object_without gone o).slots) kept objects
      (λ k d within. All-map (HoldsLive left) (slot_without gone) (kept (get_or objects k d)).slots
      (All-map (λ s. HoldsLive left (slot_without gone s)) (slot_without (λ id. not (has_id (traced_ids h) id))) (get_or objects k d).slots
      (λ i e inside. fewer_slot gone _ (kept_slot (get_or (get_or objects k d).slots i e))))))

  -- what a root names stays
  root_stays : RefersToLive h → All (λ r. IsTrue (is_live left r.1)) h.table.roots
  root_stays live k d within =
      let id = (get_or h.table.roots k d).1 in
      let alive : IsTrue (is_live h.table id) =
      subst (λ x. IsTrue (is_live h.table x)) (get_or-map (λ (r : List ℕ × ℕ). r.1) h.table.roots k d 0 within) (live.roots k 0 (rw length-map within)) in
      let named : IsTrue (has_id (root_ids h.table) id) =
      subst (λ x. IsTrue (has_id (root_ids h.table) x)) (get_or-map (λ (r : List ℕ × ℕ). r.1) h.table.roots k d 0 within)
      ((has_id-Contains (root_ids h.table) _).1 (Contains-get_or (root_ids h.table) k 0 (rw length-map within))) in
      traced_stays id (has_id-traced_ids h id ∙ traced_from_root h id named (has_id-ids h.table id ∙ alive))

  collect_keeps : RefersToLive h → RefersToLive (after_collection rules h)
  unfolding after_collection after_sweep with_only
  collect_keeps live =
      let kept = traced_ids h in
      record {
        roots =
            All-map (λ id. IsTrue (is_live left id)) (λ r. r.1) left.roots (All-filter (λ r. not (has_id (ids_to_clear rules h) r.1)) (λ r. IsTrue (is_live left r.1)) h.table.roots (root_stays live));
        slots = kept_slots (has_id (ids_to_clear rules h)) (filter (λ o. has_id kept o.id) h.table.objects);
        dead = AllLive-kept h.dead;
        unshared = AllLive-kept h.unshared;
        regions =
            All-map (All (AllLive left)) (map (filter (has_id kept))) h.regions
            (λ k d within. All-map (AllLive left) (filter (has_id kept)) (get_or h.regions k d)
            (λ i e inside. AllLive-kept (get_or (get_or h.regions k d) i e)));
        ownees = subst (AllLive left) (sym (map-filter (has_id kept) (λ o. o.0) h.owners)) (AllLive-kept (map (λ o. o.0) h.owners));
      }

empty_refers : (most : Limits) → RefersToLive (empty_heap most)
empty_refers most = record {
  roots = All-nil _;
  slots = All-nil _;
  dead = All-nil _;
  unshared = All-nil _;
  regions = All-replicate (All (AllLive (empty_table most))) MOST_THREADS [] (All-nil (AllLive (empty_table most)));
  ownees = All-nil _;
}

pub heaps_refer_to_live : HeapsReferToLive
heaps_refer_to_live = (λ most possible. empty_refers most, step_keeps, collect_keeps)
