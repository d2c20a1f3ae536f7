-- What a heap keeps in order stays so, and there are never more roots and slots than there may be.
use Rattle.std.proofs.Common.{◌≡◌, ℕ, ◌+◌, ◌<◌, ◌≤◌, ◌++◌, ◌&&◌, Bool, true, false, not, cond, ⊎_elim, List, [], ◌∷◌, length, filter, map}
use Rattle.std.proofs.Common.{replicate, fold, get_or, sym, ap, refl, subst, ◌∙◌, arith, All, Option, None, Some, Result, Ok, Err, IfOk, slice_set}
use Rattle.std.specs.Prelude.{sum_by, unwrap_or, slice_index_or, nat_le, nat_lt, ◌==◌}
use Rattle.std.specs.Cmp.{IsTotalOrder}
use Rattle.std.specs.List.Sorted.{IsStrictlySortedBy}
use Rattle.std.specs.Map.{keys_of, values_of, lookup, remove_entry}
use Rattle.std.specs.BTreeMap.{insert_entry, is_at}
use Rattle.std.specs.BTreeSet.{insert_key}
use Rattle.std.specs.Option.{option_map, is_some}
use Rattle.std.specs.Ordering.{nat_cmp, match_ordering, ordering_reverse}
use Rattle.std.specs.declared.cmp.Ordering.{Ordering}
use Rattle.std.specs.declared.cmp.Ordering.TheVariants.{Less, Equal, Greater}
use Rattle.std.proofs.lemmas.Bool.{false≢true, and_cases, leb-false, ltb-false}
use Rattle.std.proofs.lemmas.Cmp.{nat_cmp_total, nat_list_cmp_total}
use Rattle.std.proofs.lemmas.List.{length-append, length-map, length-set, length-replicate}
use Rattle.std.proofs.lemmas.List.Elements.{All-nil, All-cons, All-head, All-tail, All-weaker, All-from_recursion, recursion_from_All}
use Rattle.std.proofs.lemmas.List.Kept.{IsStrictlySortedBy-filter}
use Rattle.std.proofs.lemmas.List.Sums.{sum_by-cons, sum_by-append}
use Rattle.std.proofs.lemmas.Map.Entries.{sum_by-insert_entry}
use Rattle.std.proofs.lemmas.Map.Keys.{sorted_head, sorted_tail}
use Rattle.std.proofs.lemmas.Map.Views.{All-insert_key, All-map-remove_entry}
use Rattle.heap_base.specs.Limits.{ArePossible}
use Rattle.heap_base.specs.declared.limits.Limits.{Limits}
use Rattle.heap_base.specs.declared.limits.TheConstants.{MOST_KINDS}
use Rattle.graph_meaning.specs.declared.event.Event.{Event}
use Rattle.graph_meaning.specs.declared.event.Event.TheVariants.{Alloc, Store, SetWeak, Root, AssertDead, StartRegion, AssertAllDead, AssertInstances, AssertUnshared, AssertOwnedBy, Collect}
use Rattle.graph_meaning.specs.declared.refusal.Refusal.{Refusal}
use Rattle.graph_meaning.specs.declared.refusal.Refusal.TheVariants.{IdNotRising, TooManyObjects, TooManySlots}
use Rattle.graph_meaning.specs.Reach.{has_id}
use Rattle.graph_meaning.specs.Heap.{Slot, Object, Table, Heap, empty_heap, empty_slot, name_cmp, is_seen, regions_of, slot_count}
use Rattle.graph_meaning.specs.Assertions.{traced_ids}
use Rattle.graph_meaning.specs.Collecting.{Rules, slot_without, object_without, with_only, ids_to_clear, after_sweep, after_collection}
use Rattle.graph_meaning.specs.Step.{first_refusal, refusal_where, kind_refusal, alloc_refusal, root_refusal, is_root, with_kind, with_object}
use Rattle.graph_meaning.specs.Step.{slot_holding, slot_made_weak, with_changed_slot, with_root, with_slot, step}
use Rattle.graph_meaning.specs.Laws.{IsOrdered, IsWithinLimits, HeapsAreOrdered, LimitsAreKept}
use Rattle.graph_meaning.proofs.Membership.{map-filter, length-filter_le}
use Rattle.graph_meaning.proofs.Keeping.{first_of-None, refusal_where-None, IfOk-unless}

-- ---- sorted keys

-- a filter keeps what holds of each element under a map
All-map-filter : {X Y : Type 0} (f : X → Y) (q : X → Bool) (P : Y → Type 0) (xs : List X) → All P (map f xs) → All P (map f (filter q xs))
All-map-filter f q P [] all = all
All-map-filter {X} f q P (x ∷ xs) all = go (q x) (All-map-filter f q P xs (All-tail P (f x) (map f xs) all))
  where
    go : (b : Bool) → All P (map f (filter q xs)) → All P (map f (cond b (x ∷ filter q xs) (filter q xs)))
    go true rest = All-cons P (f x) (map f (filter q xs)) (All-head P (f x) (map f xs) all) rest
    go false rest = rest

module _ {K : Type 0} (R : K → K → Ordering) where
  sorted-cons : (x : K) (xs : List K) → All (λ y. R x y ≡ Less) xs → IsStrictlySortedBy R xs → IsStrictlySortedBy R (x ∷ xs)
  unfolding IsStrictlySortedBy
  sorted-cons x xs below sorted = (recursion_from_All (λ y. R x y ≡ Less) xs below, sorted)

  head_below : (x : K) (xs : List K) → IsStrictlySortedBy R (x ∷ xs) → All (λ y. R x y ≡ Less) xs
  head_below x xs sorted = All-from_recursion (λ y. R x y ≡ Less) xs (sorted_head R x xs sorted)

  sorted-nil : IsStrictlySortedBy R []
  unfolding IsStrictlySortedBy
  sorted-nil = tt

  pub sorted-insert_key : IsTotalOrder R → (xs : List K) (k : K) → IsStrictlySortedBy R xs → IsStrictlySortedBy R (insert_key R xs k)
  sorted-insert_key o [] k sorted = sorted-cons k [] (All-nil _) sorted
  sorted-insert_key o (x ∷ xs) k sorted = go (R k x) refl (sorted-insert_key o xs k (sorted_tail R x xs sorted))
    where
      go : (c : Ordering) → R k x ≡ c → IsStrictlySortedBy R (insert_key R xs k) → IsStrictlySortedBy R (match_ordering c (k ∷ x ∷ xs) (x ∷ xs) (x ∷ insert_key R xs k))
      go Less below rest =
          sorted-cons k (x ∷ xs)
          (All-cons (λ y. R k y ≡ Less) x xs below
          (All-weaker (λ y. R x y ≡ Less) (λ y. R k y ≡ Less) (λ y above. o.trans k x y below above) xs (head_below x xs sorted))) sorted
      go Equal same rest = sorted
      go Greater above rest =
          sorted-cons x (insert_key R xs k) (All-insert_key R k (λ y. R x y ≡ Less) xs (head_below x xs sorted) (o.antisymm x k ∙ ap ordering_reverse above)) rest

  pub keys-insert_entry : {X : Type 0} (es : List (K × X)) (k : K) (v : X) → keys_of (insert_entry R es k v) ≡ insert_key R (keys_of es) k
  keys-insert_entry [] k v = refl
  keys-insert_entry {X} (e ∷ es) k v = go (R k e.0) (keys-insert_entry es k v)
    where
      go : (c : Ordering) → keys_of (insert_entry R es k v) ≡ insert_key R (keys_of es) k →
          keys_of (match_ordering c ((k, v) ∷ e ∷ es) ((e.0, v) ∷ es) (e ∷ insert_entry R es k v)) ≡ match_ordering c (k ∷ e.0 ∷ keys_of es) (e.0 ∷ keys_of es) (e.0 ∷ insert_key R (keys_of es) k)
      go Less rest = refl
      go Equal rest = refl
      go Greater rest = ap (λ ks. e.0 ∷ ks) rest

  pub sorted-insert_entry : {X : Type 0} → IsTotalOrder R → (es : List (K × X)) (k : K) (v : X) → IsStrictlySortedBy R (keys_of es) → IsStrictlySortedBy R (keys_of (insert_entry R es k v))
  sorted-insert_entry o es k v sorted =
      subst (IsStrictlySortedBy R) (sym (keys-insert_entry es k v)) (sorted-insert_key o (keys_of es) k sorted)

  pub sorted-remove_entry : {X : Type 0} (test : K → Bool) (es : List (K × X)) → IsStrictlySortedBy R (keys_of es) → IsStrictlySortedBy R (keys_of (remove_entry test es))
  sorted-remove_entry test [] sorted = sorted
  sorted-remove_entry {X} test (e ∷ es) sorted = go (test e.0) (sorted-remove_entry test es (sorted_tail R e.0 (keys_of es) sorted))
    where
      go : (b : Bool) → IsStrictlySortedBy R (keys_of (remove_entry test es)) → IsStrictlySortedBy R (keys_of (cond b es (e ∷ remove_entry test es)))
      go true rest = sorted_tail R e.0 (keys_of es) sorted
      go false rest =
          sorted-cons e.0 (keys_of (remove_entry test es)) (All-map-remove_entry test (λ (f : K × X). f.0) (λ y. R e.0 y ≡ Less) es (head_below e.0 (keys_of es) sorted)) rest

  pub sorted-filter_keys : {X : Type 0} (p : K → Bool) (es : List (K × X)) → IsStrictlySortedBy R (keys_of es) → IsStrictlySortedBy R (keys_of (filter (λ e. p e.0) es))
  sorted-filter_keys {X} p es sorted =
      subst (IsStrictlySortedBy R) (sym (map-filter p (λ (e : K × X). e.0) es)) (IsStrictlySortedBy-filter R p (keys_of es) sorted)

sorted-fold : (xs ks : List ℕ) → IsStrictlySortedBy nat_cmp ks → IsStrictlySortedBy nat_cmp (fold (insert_key nat_cmp) ks xs)
sorted-fold [] ks sorted = sorted
sorted-fold (x ∷ xs) ks sorted = sorted-fold xs (insert_key nat_cmp ks x) (sorted-insert_key nat_cmp nat_cmp_total ks x sorted)

-- ---- order

with_table : (h : Heap) (t : Table) (regions : List (List (List ℕ))) → IsStrictlySortedBy name_cmp (keys_of t.roots) → IsOrdered h → IsOrdered (record h { table = t; regions = regions })
with_table h t regions roots old = record { roots = roots; dead = old.dead; unshared = old.unshared; limits = old.limits; owners = old.owners }

with_dead : (h : Heap) (dead : List ℕ) (regions : List (List (List ℕ))) → IsStrictlySortedBy nat_cmp dead → IsOrdered h → IsOrdered (record h { dead = dead; regions = regions })
with_dead h dead regions sorted old = record { roots = old.roots; dead = sorted; unshared = old.unshared; limits = old.limits; owners = old.owners }

roots-with_root : (t : Table) (name : List ℕ) (to : Option ℕ) → IsStrictlySortedBy name_cmp (keys_of t.roots) → IsStrictlySortedBy name_cmp (keys_of (with_root t name to).roots)
unfolding with_root
roots-with_root t name None sorted = sorted-remove_entry name_cmp (is_at (name_cmp name)) t.roots sorted
roots-with_root t name (Some id) sorted = sorted-insert_entry name_cmp nat_list_cmp_total t.roots name id sorted

step_orders : (h : Heap) (event : Event) → IsOrdered h → IfOk (step h event) IsOrdered
unfolding step with_object with_changed_slot
step_orders h (Alloc id kind slots thread) old = IfOk-unless IsOrdered _ _ (λ none. with_table h _ _ old.roots old)
step_orders h (Store at slot to) old = IfOk-unless IsOrdered _ _ (λ none. with_table h _ h.regions old.roots old)
step_orders h (SetWeak at slot weak) old = IfOk-unless IsOrdered _ _ (λ none. with_table h _ h.regions old.roots old)
step_orders h (Root name to) old =
    IfOk-unless IsOrdered _ _ (λ none. with_table h (with_root h.table name to) h.regions (roots-with_root h.table name to old.roots) old)
step_orders h (AssertDead id) old =
    IfOk-unless IsOrdered _ _ (λ none. with_dead h _ h.regions (sorted-insert_key nat_cmp nat_cmp_total h.dead id old.dead) old)
step_orders h (StartRegion thread) old = IfOk-unless IsOrdered _ _ (λ none. with_table h h.table _ old.roots old)
step_orders h (AssertAllDead thread) old =
    IfOk-unless IsOrdered _ _ (λ none. with_dead h _ _ (sorted-fold (slice_index_or (regions_of h.regions thread) 0 []) h.dead old.dead) old)
step_orders h (AssertInstances kind limit) old =
    IfOk-unless IsOrdered _ _
    (λ none. record { roots = old.roots; dead = old.dead; unshared = old.unshared; limits = sorted-insert_entry name_cmp nat_list_cmp_total h.limits kind limit old.limits; owners = old.owners })
step_orders h (AssertUnshared id) old =
    IfOk-unless IsOrdered _ _
    (λ none. record { roots = old.roots; dead = old.dead; unshared = sorted-insert_key nat_cmp nat_cmp_total h.unshared id old.unshared; limits = old.limits; owners = old.owners })
step_orders h (AssertOwnedBy owner ownee) old =
    IfOk-unless IsOrdered _ _
    (λ none. record { roots = old.roots; dead = old.dead; unshared = old.unshared; limits = old.limits; owners = sorted-insert_entry nat_cmp nat_cmp_total h.owners ownee owner old.owners })
step_orders h Collect old = old

-- a filter of roots by what they hold
sorted-filter_values : (p : ℕ → Bool) (roots : List (List ℕ × ℕ)) → IsStrictlySortedBy name_cmp (keys_of roots) → IsStrictlySortedBy name_cmp (keys_of (filter (λ r. p r.1) roots))
sorted-filter_values p [] sorted = sorted
sorted-filter_values p (r ∷ roots) sorted = go (p r.1) (sorted-filter_values p roots (sorted_tail name_cmp r.0 (keys_of roots) sorted))
  where
    go : (b : Bool) → IsStrictlySortedBy name_cmp (keys_of (filter (λ r. p r.1) roots)) → IsStrictlySortedBy name_cmp (keys_of (cond b (r ∷ filter (λ r. p r.1) roots) (filter (λ r. p r.1) roots)))
    go true rest =
        sorted-cons name_cmp r.0 (keys_of (filter (λ r. p r.1) roots))
        (All-map-filter (λ (f : List ℕ × ℕ). f.0) (λ f. p f.1) (λ y. name_cmp r.0 y ≡ Less) roots (head_below name_cmp r.0 (keys_of roots) sorted))
        rest
    go false rest = rest

collect_orders : (rules : Rules) (h : Heap) → IsOrdered h → IsOrdered (after_collection rules h)
unfolding after_collection after_sweep with_only
collect_orders rules h old =
    let kept = has_id (traced_ids h) in
    record {
      roots = sorted-filter_values (λ id. not (has_id (ids_to_clear rules h) id)) h.table.roots old.roots;
      dead = IsStrictlySortedBy-filter nat_cmp kept h.dead old.dead;
      unshared = IsStrictlySortedBy-filter nat_cmp kept h.unshared old.unshared;
      limits = old.limits;
      owners = sorted-filter_keys nat_cmp kept h.owners old.owners;
    }

empty_ordered : (most : Limits) → IsOrdered (empty_heap most)
empty_ordered most =
    let names = sorted-nil name_cmp in
    let ids = sorted-nil nat_cmp in
    record { roots = names; dead = ids; unshared = ids; limits = names; owners = ids }

pub heaps_are_ordered : HeapsAreOrdered
heaps_are_ordered = (λ most possible. empty_ordered most, step_orders, collect_orders)

-- ---- limits

sum_by-ones : {X : Type 0} (xs : List X) → sum_by (λ x. 1) xs ≡ length xs
sum_by-ones [] = refl
sum_by-ones (x ∷ xs) = let e = sum_by-cons (λ z. 1) x xs in let rest = sum_by-ones xs in omega arith

length-insert_entry : {K X : Type 0} (R : K → K → Ordering) → IsTotalOrder R → (es : List (K × X)) (k : K) (v : X) →
    IsStrictlySortedBy R (keys_of es) → length (insert_entry R es k v) + unwrap_or (option_map (λ x. 1) (lookup (is_at (R k)) es)) 0 ≡ length es + 1
length-insert_entry R o es k v sorted =
    let all = sum_by-insert_entry (λ x. 1) o es k v sorted in
    let new = sum_by-ones (values_of (insert_entry R es k v)) in
    let old = sum_by-ones (values_of es) in
    let new_length = length-map (insert_entry R es k v) (λ e. e.1) in
    let old_length = length-map es (λ e. e.1) in
    omega arith

length-remove_entry_le : {K X : Type 0} (test : K → Bool) (es : List (K × X)) → length (remove_entry test es) ≤ length es
length-remove_entry_le test [] = omega arith
length-remove_entry_le {K} {X} test (e ∷ es) = go (test e.0) (length-remove_entry_le test es)
  where
    go : (b : Bool) → length (remove_entry test es) ≤ length es → length (cond b es (e ∷ remove_entry test es)) ≤ length (e ∷ es)
    go true rest = omega arith
    go false rest = omega arith

roots_few : (t : Table) (name : List ℕ) (to : Option ℕ) → root_refusal t name to ≡ None → IsStrictlySortedBy name_cmp (keys_of t.roots) →
    length t.roots ≤ t.most.roots → length (with_root t name to).roots ≤ t.most.roots
unfolding with_root root_refusal
roots_few t name None none sorted few = let fewer = length-remove_entry_le (is_at (name_cmp name)) t.roots in omega arith
roots_few t name (Some id) none sorted few =
    let e = length-insert_entry name_cmp nat_list_cmp_total t.roots name id sorted in
    ⊎_elim
    (λ there. let one = counted (lookup (is_at (name_cmp name)) t.roots) (was_there (is_root t name) there) in omega arith)
    (λ room. let space = leb-false t.most.roots (length t.roots) room in omega arith)
    (and_cases (not (is_root t name)) (nat_le t.most.roots (length t.roots)) (refusal_where-None _ _ (first_of-None _ _ none).1))
  where
    was_there : (b : Bool) → not b ≡ false → b ≡ true
    was_there true e = refl
    was_there false e = absurd (false≢true (sym e))

    counted : (o : Option ℕ) → is_some o ≡ true → unwrap_or (option_map {T = ℕ} {U = ℕ} (λ x. 1) o) 0 ≡ 1
    counted None at = absurd (false≢true at)
    counted (Some x) at = refl

-- a change to objects that keeps how many slots they have
same_slots : (f : Object → Object) → ((o : Object) → length (f o).slots ≡ length o.slots) → (objects : List Object) →
    sum_by (λ o. length o.slots) (map f objects) ≡ sum_by (λ o. length o.slots) objects
same_slots f same [] = refl
same_slots f same (o ∷ objects) =
    let e = sum_by-cons (λ (u : Object). length u.slots) (f o) (map f objects) in
    let d = sum_by-cons (λ (u : Object). length u.slots) o objects in
    let here = same o in
    let rest = same_slots f same objects in
    omega arith

slots-with_change : (t : Table) (at slot : ℕ) (change : Slot → Slot) → slot_count (with_changed_slot t at slot change) ≡ slot_count t
unfolding with_changed_slot
slots-with_change t at slot change = same_slots (with_slot at slot change) (λ o. each o (o.id == at)) t.objects
  where
    each : (o : Object) (b : Bool) → length (cond b (record o { slots = slice_set o.slots slot (change (get_or o.slots slot empty_slot)) }) o).slots ≡ length o.slots
    each o true = length-set o.slots slot _
    each o false = refl

filter_fewer : (p : Object → Bool) (objects : List Object) → sum_by (λ o. length o.slots) (filter p objects) ≤ sum_by (λ o. length o.slots) objects
filter_fewer p [] = omega arith
filter_fewer p (o ∷ objects) = go (p o) (filter_fewer p objects)
  where
    count : List Object → ℕ
    count us = sum_by (λ u. length u.slots) us

    go : (b : Bool) → sum_by (λ u. length u.slots) (filter p objects) ≤ sum_by (λ u. length u.slots) objects →
        sum_by (λ u. length u.slots) (cond b (o ∷ filter p objects) (filter p objects)) ≤ sum_by (λ u. length u.slots) (o ∷ objects)
    go true rest =
        let e = sum_by-cons (λ (u : Object). length u.slots) o objects in
        let d = sum_by-cons (λ (u : Object). length u.slots) o (filter p objects) in
        omega arith
    go false rest = let e = sum_by-cons (λ (u : Object). length u.slots) o objects in omega arith

alloc_few : (t : Table) (id : ℕ) (kind : List ℕ) (slots : ℕ) → alloc_refusal t id kind slots ≡ None → slot_count (with_object t id kind slots) ≤ t.most.slots
unfolding with_object alloc_refusal
alloc_few t id kind slots none =
    let slots_and_kind = first_refusal (refusal_where (nat_lt t.most.slots (slot_count t + slots)) TooManySlots) (kind_refusal t kind) in
    let risen = first_of-None (refusal_where (nat_le id t.greatest) (IdNotRising id)) (first_refusal (refusal_where (nat_le t.most.objects (length t.objects)) TooManyObjects) slots_and_kind) none in
    let held = first_of-None (refusal_where (nat_le t.most.objects (length t.objects)) TooManyObjects) slots_and_kind risen.1 in
    let fits =
    refusal_where-None (nat_lt t.most.slots (slot_count t + slots)) TooManySlots
    (first_of-None (refusal_where (nat_lt t.most.slots (slot_count t + slots)) TooManySlots) (kind_refusal t kind) held.1).0 in
    let room = ltb-false t.most.slots (slot_count t + slots) fits in
    let e = sum_by-append (λ (o : Object). length o.slots) t.objects (record { id = id; kind = kind; slots = replicate slots empty_slot } ∷ []) in
    let d = sum_by-cons (λ (o : Object). length o.slots) (record { id = id; kind = kind; slots = replicate slots empty_slot }) [] in
    let n = length-replicate slots empty_slot in
    omega arith

-- no type is new where as many as there may be were seen
kinds_few : (t : Table) (kind : List ℕ) → kind_refusal t kind ≡ None → length t.kinds ≤ MOST_KINDS → length (with_kind t.kinds kind) ≤ MOST_KINDS
kinds_few t kind none few = go (is_seen t.kinds kind) (refusal_where-None _ _ none)
  where
    go : (b : Bool) → (not b && nat_le MOST_KINDS (length t.kinds)) ≡ false → length (cond b t.kinds (t.kinds ++ kind ∷ [])) ≤ MOST_KINDS
    go true room = few
    go false room = let space = leb-false MOST_KINDS (length t.kinds) room in let one_more = length-append t.kinds (kind ∷ []) in omega arith

-- an object may be added where there are fewer than there may be
alloc_room : (t : Table) (id : ℕ) (kind : List ℕ) (slots : ℕ) → alloc_refusal t id kind slots ≡ None → (length t.objects < t.most.objects) × (kind_refusal t kind ≡ None)
unfolding alloc_refusal
alloc_room t id kind slots none =
    let risen = (first_of-None (refusal_where (nat_le id t.greatest) (IdNotRising id)) _ none).1 in
    let held = first_of-None (refusal_where (nat_le t.most.objects (length t.objects)) TooManyObjects) _ risen in
    (leb-false t.most.objects (length t.objects) (refusal_where-None _ _ held.0), (first_of-None (refusal_where (nat_lt t.most.slots (slot_count t + slots)) TooManySlots) (kind_refusal t kind) held.1).1)

alloc_keeps_limits : (t : Table) (id : ℕ) (kind : List ℕ) (slots : ℕ) → alloc_refusal t id kind slots ≡ None → IsWithinLimits t → IsWithinLimits (with_object t id kind slots)
unfolding with_object
alloc_keeps_limits t id kind slots none old =
    let (fewer, known) = alloc_room t id kind slots none in
    let one_more = length-append t.objects (record { id = id; kind = kind; slots = replicate slots empty_slot } ∷ []) in
    record {
      possible = old.possible;
      objects = omega arith;
      slots = alloc_few t id kind slots none;
      roots = old.roots;
      kinds = kinds_few t kind known old.kinds;
    }

change_few : (t : Table) (at slot : ℕ) (change : Slot → Slot) → IsWithinLimits t → IsWithinLimits (with_changed_slot t at slot change)
unfolding with_changed_slot
change_few t at slot change old =
    let same = slots-with_change t at slot change in
    let slots = old.slots in
    let many = length-map t.objects (with_slot at slot change) in
    let objects = old.objects in
    record { possible = old.possible; objects = omega arith; slots = omega arith; roots = old.roots; kinds = old.kinds }

root_keeps_limits : (t : Table) (name : List ℕ) (to : Option ℕ) → root_refusal t name to ≡ None →
    IsStrictlySortedBy name_cmp (keys_of t.roots) → IsWithinLimits t → IsWithinLimits (with_root t name to)
unfolding with_root
root_keeps_limits t name None none sorted old =
    record { possible = old.possible; objects = old.objects; slots = old.slots; roots = roots_few t name None none sorted old.roots; kinds = old.kinds }
root_keeps_limits t name (Some id) none sorted old =
    record { possible = old.possible; objects = old.objects; slots = old.slots; roots = roots_few t name (Some id) none sorted old.roots; kinds = old.kinds }

-- a heap with that order, and within the limits
abbrev IsLimited : Heap → Type 0
IsLimited h = IsOrdered h × IsWithinLimits h.table

step_few : (h : Heap) (event : Event) → IsLimited h → IfOk (step h event) (λ next. IsWithinLimits next.table)
unfolding step
step_few h (Alloc id kind slots thread) old =
    IfOk-unless (λ next. IsWithinLimits next.table) _ _ (λ none. alloc_keeps_limits h.table id kind slots none old.1)
step_few h (Store at slot to) old =
    IfOk-unless (λ next. IsWithinLimits next.table) _ _ (λ none. change_few h.table at slot (slot_holding to) old.1)
step_few h (SetWeak at slot weak) old =
    IfOk-unless (λ next. IsWithinLimits next.table) _ _ (λ none. change_few h.table at slot (slot_made_weak weak) old.1)
step_few h (Root name to) old =
    IfOk-unless (λ next. IsWithinLimits next.table) _ _ (λ none. root_keeps_limits h.table name to none old.0.roots old.1)
step_few h (AssertDead id) old = IfOk-unless (λ next. IsWithinLimits next.table) _ _ (λ none. old.1)
step_few h (StartRegion thread) old = IfOk-unless (λ next. IsWithinLimits next.table) _ _ (λ none. old.1)
step_few h (AssertAllDead thread) old = IfOk-unless (λ next. IsWithinLimits next.table) _ _ (λ none. old.1)
step_few h (AssertInstances kind limit) old =
    IfOk-unless (λ next. IsWithinLimits next.table) _ _ (λ none. record { possible = old.1.possible; objects = old.1.objects; slots = old.1.slots; roots = old.1.roots; kinds = kinds_few h.table kind none old.1.kinds })
step_few h (AssertUnshared id) old = IfOk-unless (λ next. IsWithinLimits next.table) _ _ (λ none. old.1)
step_few h (AssertOwnedBy owner ownee) old = IfOk-unless (λ next. IsWithinLimits next.table) _ _ (λ none. old.1)
step_few h Collect old = old.1

step_limits : (h : Heap) (event : Event) → IsLimited h → IfOk (step h event) IsLimited
step_limits h event old = both (step h event) (step_orders h event old.0) (step_few h event old)
  where
    both : (r : Result Heap Refusal) → IfOk r IsOrdered → IfOk r (λ next. IsWithinLimits next.table) → IfOk r IsLimited
    both (Ok next) ordered few = (ordered, few)
    both (Err e) ordered few = tt

collect_few : (rules : Rules) (h : Heap) → IsWithinLimits h.table → IsWithinLimits (after_collection rules h).table
unfolding after_collection after_sweep with_only
collect_few rules h old =
    let kept = has_id (traced_ids h) in
    let gone = has_id (ids_to_clear rules h) in
    let sweep = object_without (λ id. not (has_id (traced_ids h) id)) in
    let left = filter (λ (o : Object). kept o.id) h.table.objects in
    let cut = same_slots (object_without gone) (λ o. length-map o.slots (slot_without gone)) (map sweep left) in
    let emptied = same_slots sweep (λ o. length-map o.slots (slot_without (λ id. not (has_id (traced_ids h) id)))) left in
    let fewer = filter_fewer (λ o. kept o.id) h.table.objects in
    let fewer_roots = length-filter_le (λ (r : List ℕ × ℕ). not (gone r.1)) h.table.roots in
    let fewer_objects = length-filter_le (λ (o : Object). kept o.id) h.table.objects in
    let swept_objects = length-map left sweep in
    let cut_objects = length-map (map sweep left) (object_without gone) in
    let objects = old.objects in
    let roots = old.roots in
    let slots = old.slots in
    record { possible = old.possible; objects = omega arith; slots = omega arith; roots = omega arith; kinds = old.kinds }

collect_limits : (rules : Rules) (h : Heap) → IsLimited h → IsLimited (after_collection rules h)
collect_limits rules h old = (collect_orders rules h old.0, collect_few rules h old.1)

empty_limited : (most : Limits) → ArePossible most → IsLimited (empty_heap most)
empty_limited most possible = (empty_ordered most, record { possible = possible; objects = omega arith; slots = omega arith; roots = omega arith; kinds = omega arith })

pub limits_are_kept : LimitsAreKept
limits_are_kept = (empty_limited, step_limits, collect_limits)
