-- The view of a heap that allocations, stores and roots make is lawful.
use Rattle.std.proofs.Common.{◌≡◌, ℕ, ◌<◌, ◌≤◌, Bool, true, false, cond, eqb, IsTrue, List, [], ◌∷◌, length, map, fold, replicate, get_or, slice_set}
use Rattle.std.proofs.Common.{Option, None, Some, IfSome, Result, Ok, Err, IfOk, All, AllPairs, IsUtf8, refl, sym, ap, ◌∙◌, subst, arith}
use Rattle.std.specs.List.Sorted.{IsStrictlySortedBy}
use Rattle.std.specs.Prelude.{OnOk, OnErr}
use Rattle.std.specs.BTreeMap.{is_at}
use Rattle.std.specs.Map.{keys_of}
use Rattle.std.proofs.lemmas.List.{length-map, map-append}
use Rattle.std.proofs.lemmas.List.Elements.{All-nil, All-cons, All-head, All-tail, All-push, All-map, All-weaker}
use Rattle.std.proofs.lemmas.List.Sums.{sum_by-cons}
use Rattle.std.proofs.lemmas.Map.Views.{All-keys-insert_entry, All-map-remove_entry}
use Rattle.std.proofs.lemmas.Str.{is_utf8-from_IsUtf8}
use Rattle.heap_base.specs.Limits.{ArePossible, usual_limits}
use Rattle.heap_base.specs.declared.limits.Limits.{Limits}
use Rattle.heap_base.specs.Names.{is_name}
use Rattle.heap_base.specs.declared.limits.TheConstants.{MOST_KINDS}
use Rattle.graph_meaning.specs.declared.event.Event.{Event}
use Rattle.graph_meaning.specs.declared.event.Event.TheVariants.{Alloc, Store, Root, SetWeak, AssertDead, StartRegion, AssertAllDead, AssertInstances, AssertUnshared, AssertOwnedBy, Collect}
use Rattle.graph_meaning.specs.declared.refusal.Refusal.{Refusal}
use Rattle.graph_meaning.specs.declared.views.ObjectView.{ObjectView}
use Rattle.graph_meaning.specs.Assertions.{root_ids}
use Rattle.graph_meaning.specs.Heap.{Slot, Object, Table, Heap, empty_heap, empty_slot, name_cmp, ids, is_live, slot_count, edge_of}
use Rattle.graph_meaning.specs.Laws.{AllLive, HoldsLive, RefersToLive, IdsRise, IsOrdered, IsWithinLimits}
use Rattle.graph_meaning.specs.Reach.{has_id}
use Rattle.graph_meaning.specs.Step.{with_kind, with_object, with_slot, with_changed_slot, slot_holding, with_root, step}
use Rattle.graph_meaning.specs.Views.{object_view, heap_view}
use Rattle.graph_meaning.proofs.HeapLemmas.{has_id-ids}
use Rattle.graph_meaning.proofs.Keeping.{IfOk-unless, heaps_refer_to_live}
use Rattle.graph_meaning.proofs.Orders.{limits_are_kept}
use Rattle.graph_meaning.proofs.Rising.{ids_always_rise}
use Rattle.object_table.specs.Placed.{PlacedTable, nothing_placed, IsSound}
use Rattle.trace_reader.specs.Meaning.{◌>>=◌}
use Rattle.heap_snapshot.specs.Dangling.{object_ids}
use Rattle.heap_snapshot.specs.Formed.{IsId, IsName, IsWellFormed, kind_names}
use Rattle.heap_snapshot.specs.Made.{MakesHeaps, IsNamed, IsMade, ViewsAreLawful}
use Rattle.heap_snapshot.specs.Reading.{IsLawful}
use Rattle.heap_snapshot.proofs.Formed.{slot_total}
use Rattle.heap_snapshot.proofs.Lawful.{well_formed_is_lawful}
use Rattle.heap_snapshot.proofs.Legal.{kinds-push}
use Rattle.heap_snapshot.proofs.Remaking.{seen, run_of, same_heap}

-- ---- what the operations keep

abbrev IsLegal : Object → Type 0
IsLegal o = IsId o.id × IsName o.kind

pub made_object : (t : Table) (id : ℕ) (kind : List ℕ) (slots : ℕ) → IsId id → IsName kind → IsMade t → IsMade (with_object t id kind slots)
unfolding with_object
made_object t id kind slots is_id is_kind is =
    let new : Object = record { id = id; kind = kind; slots = replicate slots empty_slot } in
    record {
      kinds =
          ap (λ (ks : List (List ℕ)). with_kind ks kind) is.kinds
          ∙ sym (kinds-push (map object_view t.objects) (object_view new))
          ∙ ap kind_names (sym (map-append object_view t.objects (new ∷ [])));
      objects = All-push IsLegal t.objects new is.objects (is_id, is_kind);
      roots = is.roots;
      most = is.most;
    }

same_kinds : (f : Object → Object) → ((o : Object) → (f o).kind ≡ o.kind) → (kinds : List (List ℕ)) (objects : List Object) →
    fold seen kinds (map object_view objects) ≡ fold seen kinds (map object_view (map f objects))
same_kinds f same kinds [] = refl
same_kinds f same kinds (o ∷ objects) =
    ap (λ (k : List ℕ). fold seen (with_kind kinds k) (map object_view objects)) (sym (same o)) ∙ same_kinds f same (with_kind kinds (f o).kind) objects

pub made_store : (t : Table) (at slot : ℕ) (change : Slot → Slot) → IsMade t → IsMade (with_changed_slot t at slot change)
unfolding with_changed_slot
made_store t at slot change is = record {
  kinds = is.kinds ∙ same_kinds (with_slot at slot change) (λ o. kind_of o (eqb o.id at)) [] t.objects;
  objects = All-map IsLegal (with_slot at slot change) t.objects (All-weaker IsLegal (λ o. IsLegal (with_slot at slot change o)) (λ o legal. legal_of o (eqb o.id at) legal) t.objects is.objects);
  roots = is.roots;
  most = is.most;
}
  where
    kind_of : (o : Object) (b : Bool) → (cond b (record o { slots = slice_set o.slots slot (change (get_or o.slots slot empty_slot)) }) o).kind ≡ o.kind
    kind_of o true = refl
    kind_of o false = refl

    legal_of : (o : Object) (b : Bool) → IsLegal o → IsLegal (cond b (record o { slots = slice_set o.slots slot (change (get_or o.slots slot empty_slot)) }) o)
    legal_of o true legal = legal
    legal_of o false legal = legal

pub made_root : (t : Table) (name : List ℕ) (to : Option ℕ) → IsName name → IsMade t → IsMade (with_root t name to)
unfolding with_root
made_root t name None named is =
    record { kinds = is.kinds; objects = is.objects; roots = All-map-remove_entry (is_at (name_cmp name)) (λ r. r.0) IsName t.roots is.roots; most = is.most }
made_root t name (Some id) named is =
    record { kinds = is.kinds; objects = is.objects; roots = All-keys-insert_entry name_cmp name id IsName t.roots is.roots named; most = is.most }

-- the name that a text is
pub is_named : (text name : List ℕ) → IsUtf8 text → text ≡ name → IsTrue (is_name name) → IsName name
is_named text name utf8 same legal = (legal, is_utf8-from_IsUtf8 name (subst IsUtf8 same utf8))

-- the table that a call leaves, which has done the operation or left the table as it was
pub made_after : {T E : Type 0} (r : Result T E) (before after : PlacedTable) (next : Table) → OnOk r (after.table ≡ next) → OnErr r (after ≡ before) →
    IsMade before.table → IsMade next → IsMade after.table
made_after (Ok done) before after next same err made then = subst IsMade (sym same) then
made_after (Err e) before after next same err made then = subst (λ (p : PlacedTable). IsMade p.table) (sym err) made

-- ---- the view of a table

ids-view : (objects : List Object) → object_ids (map object_view objects) ≡ map (λ o. o.id) objects
ids-view [] = refl
ids-view (o ∷ objects) = ap (λ (xs : List ℕ). o.id ∷ xs) (ids-view objects)

total-view : (t : Table) (objects : List Object) → slot_total (map object_view objects) ≡ slot_count (record t { objects = objects })
total-view t [] = refl
total-view t (o ∷ objects) =
    let shown = sum_by-cons (λ (x : ObjectView). length x.slots) (object_view o) (map object_view objects) in
    let all = sum_by-cons (λ (x : Object). length x.slots) o objects in
    omega (arith, shown, all, length-map o.slots edge_of, total-view t objects)

named_keys : (roots : List (List ℕ × ℕ)) → All IsName (keys_of roots) → All (λ (r : List ℕ × ℕ). IsName r.0) roots
named_keys [] named = All-nil _
named_keys (r ∷ roots) named =
    All-cons (λ (r : List ℕ × ℕ). IsName r.0) r roots (All-head IsName r.0 (keys_of roots) named) (named_keys roots (All-tail IsName r.0 (keys_of roots) named))

-- what is known of a table whose view is to be written
record IsReady (t : Table) : Type 0 where
  rise : IdsRise t
  names : IsStrictlySortedBy name_cmp (keys_of t.roots)
  roots : AllLive t (root_ids t)
  slots : All (λ o. All (HoldsLive t) o.slots) t.objects
  limits : IsWithinLimits t
  made : IsMade t

module _ (t : Table) (is : IsReady t) where
  abbrev shown_ids : List ℕ
  shown_ids = object_ids (map object_view t.objects)

  shown_live : (id : ℕ) → IsTrue (is_live t id) → IsTrue (has_id shown_ids id)
  shown_live id live = ap (λ (xs : List ℕ). has_id xs id) (ids-view t.objects) ∙ has_id-ids t id ∙ live

  abbrev Refers : Option ℕ → Type 0
  Refers held = IfSome held (λ to. IsTrue (has_id shown_ids to))

  edge_live : (s : Slot) → HoldsLive t s → Refers (edge_of s)
  edge_live s live = go s.weak s.held live
    where
      go : (weak : Bool) (held : Option ℕ) → IfSome held (λ id. IsTrue (is_live t id)) → Refers (edge_of (record { held = held; weak = weak }))
      go true held live = tt
      go false None live = tt
      go false (Some id) live = shown_live id live

  roots_live : (roots : List (List ℕ × ℕ)) → AllLive t (map (λ r. r.1) roots) → All (λ (r : List ℕ × ℕ). IsTrue (has_id shown_ids r.1)) roots
  roots_live [] live = All-nil _
  roots_live (r ∷ roots) live =
      All-cons (λ (r : List ℕ × ℕ). IsTrue (has_id shown_ids r.1)) r roots (shown_live r.1 (All-head (λ id. IsTrue (is_live t id)) r.1 (map (λ r. r.1) roots) live))
      (roots_live roots (All-tail (λ id. IsTrue (is_live t id)) r.1 (map (λ r. r.1) roots) live))

  view_formed : IsWellFormed (heap_view t)
  view_formed = record {
    few_objects = omega (arith, length-map t.objects object_view, is.limits.objects, ap (λ (l : Limits). l.objects) is.made.most);
    few_slots = omega (arith, total-view t t.objects, is.limits.slots, ap (λ (l : Limits). l.slots) is.made.most);
    few_roots = omega (arith, is.limits.roots, ap (λ (l : Limits). l.roots) is.made.most);
    few_kinds = subst (λ (ks : List (List ℕ)). length ks ≤ MOST_KINDS) is.made.kinds is.limits.kinds;
    objects = All-map (λ (o : ObjectView). IsId o.id × IsName o.kind) object_view t.objects is.made.objects;
    root_names = named_keys t.roots is.made.roots;
    ids = subst (AllPairs (λ x y. x < y)) (sym (ids-view t.objects)) is.rise.rising;
    names = is.names;
    slots =
        All-map (λ (o : ObjectView). All Refers o.slots) object_view t.objects
        (All-weaker (λ o. All (HoldsLive t) o.slots) (λ o. All Refers (map edge_of o.slots))
        (λ o live. All-map Refers edge_of o.slots (All-weaker (HoldsLive t) (λ s. Refers (edge_of s)) edge_live o.slots live)) t.objects is.slots);
    roots = roots_live t.roots is.roots;
  }

  view_lawful : IsLawful (heap_view t)
  view_lawful = well_formed_is_lawful (heap_view t) view_formed

-- the table of an `ObjectTable` that such operations made
pub table_lawful : (t : Table) → IsSound t → IsMade t → IsLawful (heap_view t)
table_lawful t sound made =
    view_lawful t (record { rise = sound.ids; names = sound.names; roots = sound.roots; slots = sound.slots; limits = sound.limits; made = made })

-- ---- heaps

-- what holds of the heap that such operations made
pub record IsGood (h : Heap) : Type 0 where
  pub refers : RefersToLive h
  pub rise : IdsRise h.table
  pub limited : IsOrdered h × IsWithinLimits h.table
  pub made : IsMade h.table

usual_possible : ArePossible usual_limits
usual_possible = record { objects = omega arith; slots = omega arith; roots = omega arith }

pub empty_good : IsGood (empty_heap usual_limits)
empty_good = record {
  refers = heaps_refer_to_live.0 usual_limits usual_possible;
  rise = ids_always_rise.0 usual_limits usual_possible;
  limited = limits_are_kept.0 usual_limits usual_possible;
  made = record { kinds = refl; objects = All-nil _; roots = All-nil _; most = refl };
}

made_step : (h : Heap) (e : Event) → MakesHeaps e → IsNamed e → IsMade h.table → IfOk (step h e) (λ next. IsMade next.table)
unfolding step
made_step h (Alloc id kind slots thread) makes named is =
    IfOk-unless (λ next. IsMade next.table) _ _ (λ none. made_object h.table id kind slots named.0 named.1 is)
made_step h (Store at slot to) makes named is = IfOk-unless (λ next. IsMade next.table) _ _ (λ none. made_store h.table at slot (slot_holding to) is)
made_step h (Root name to) makes named is = IfOk-unless (λ next. IsMade next.table) _ _ (λ none. made_root h.table name to named is)
made_step h (SetWeak at slot weak) makes named is = absurd makes
made_step h (AssertDead id) makes named is = absurd makes
made_step h (StartRegion thread) makes named is = absurd makes
made_step h (AssertAllDead thread) makes named is = absurd makes
made_step h (AssertInstances kind limit) makes named is = absurd makes
made_step h (AssertUnshared id) makes named is = absurd makes
made_step h (AssertOwnedBy owner ownee) makes named is = absurd makes
made_step h Collect makes named is = absurd makes

pub good_step : (h : Heap) (e : Event) → MakesHeaps e → IsNamed e → IsGood h → IfOk (step h e) IsGood
good_step h e makes named is =
    all (step h e) (heaps_refer_to_live.1 h e is.refers) (ids_always_rise.1 h e is.rise) (limits_are_kept.1 h e is.limited) (made_step h e makes named is.made)
  where
    all : (r : Result Heap Refusal) → IfOk r RefersToLive → IfOk r (λ n. IdsRise n.table) → IfOk r (λ n. IsOrdered n × IsWithinLimits n.table) → IfOk r (λ n. IsMade n.table) → IfOk r IsGood
    all (Ok next) refers rise limited made = record { refers = refers; rise = rise; limited = limited; made = made }
    all (Err x) refers rise limited made = tt

pub good_lawful : (h : Heap) → IsGood h → IsLawful (heap_view h.table)
good_lawful h is =
    view_lawful h.table
    (record { rise = is.rise; names = is.limited.0.roots; roots = is.refers.roots; slots = is.refers.slots; limits = is.limited.1; made = is.made })

good_run : (h k : Heap) (events : List Event) → All MakesHeaps events → All IsNamed events → IsGood h → run_of h events ≡ Ok k → IsGood k
good_run h k [] makes named is ran = subst IsGood (same_heap h k ran) is
good_run h k (e ∷ events) makes named is ran =
    go (step h e) (good_step h e (All-head MakesHeaps e events makes) (All-head IsNamed e events named) is)
    (λ n good more. good_run n k events (All-tail MakesHeaps e events makes) (All-tail IsNamed e events named) good more) ran
  where
    go : (r : Result Heap Refusal) → IfOk r IsGood → ((n : Heap) → IsGood n → run_of n events ≡ Ok k → IsGood k) → (r >>= (λ n. run_of n events)) ≡ Ok k → IsGood k
    go (Ok n) good later ran = later n good ran
    go (Err x) good later ran = absurd (cc)

pub views_are_lawful : ViewsAreLawful
views_are_lawful events h makes named ran = good_lawful h (good_run (empty_heap usual_limits) h events makes named empty_good ran)

-- ---- an `ObjectTable` of which nothing was asked yet

pub made_nothing : (p : PlacedTable) → p ≡ nothing_placed usual_limits → IsMade p.table
made_nothing p is = subst (λ (q : PlacedTable). IsMade q.table) (sym is) empty_good.made
