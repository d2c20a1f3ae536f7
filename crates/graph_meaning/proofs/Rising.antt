-- The ids of the objects rise, and what a collection keeps of edges and references.
use Rattle.std.proofs.Common.{◌≡◌, ℕ, ◌<◌, ◌≤◌, Bool, not, List, [], ◌∷◌, ◌++◌, filter, sym, refl, subst, ◌∙◌, arith, All, AllPairs, Option, None, Some, IfOk}
use Rattle.std.proofs.lemmas.Bool.{leb-false}
use Rattle.std.proofs.lemmas.List.{map-append}
use Rattle.std.proofs.lemmas.List.Elements.{All-nil, All-weaker, All-filter, All-push}
use Rattle.std.proofs.lemmas.List.Kept.{AllPairs-filter}
use Rattle.std.proofs.lemmas.List.Quantifiers.{all_pairs_push}
use Rattle.graph_meaning.specs.declared.event.Event.{Event}
use Rattle.graph_meaning.specs.declared.event.Event.TheVariants.{Alloc, Store, SetWeak, Root, AssertDead, StartRegion, AssertAllDead, AssertInstances, AssertUnshared, AssertOwnedBy, Collect}
use Rattle.graph_meaning.specs.Reach.{has_id}
use Rattle.graph_meaning.specs.Heap.{Slot, Object, Table, Heap, ids}
use Rattle.graph_meaning.specs.Assertions.{traced_ids}
use Rattle.graph_meaning.specs.Collecting.{Rules, object_without, with_only, cut_off, ids_to_clear, after_sweep, after_collection}
use Rattle.graph_meaning.specs.Step.{alloc_refusal, with_object, slot_holding, slot_made_weak, with_changed_slot, with_root, with_slot, step}
use Rattle.graph_meaning.specs.Laws.{IdsRise, IdsAlwaysRise}
use Rattle.graph_meaning.proofs.Membership.{map-filter, map_agree}
use Rattle.graph_meaning.proofs.HeapLemmas.{id-with_slot}
use Rattle.graph_meaning.proofs.Keeping.{first_of-None, refusal_where-None, IfOk-unless}

-- a new id is above the greatest
pub alloc_refusal-None : (t : Table) (id : ℕ) (kind : List ℕ) (slots : ℕ) → alloc_refusal t id kind slots ≡ None → t.greatest < id
unfolding alloc_refusal
alloc_refusal-None t id kind slots none = leb-false id t.greatest (refusal_where-None _ _ (first_of-None _ _ none).0)

-- ---- the ids after an operation

pub ids-with_object : (t : Table) (id : ℕ) (kind : List ℕ) (slots : ℕ) → ids (with_object t id kind slots) ≡ ids t ++ id ∷ []
unfolding with_object
ids-with_object t id kind slots = map-append (λ (o : Object). o.id) t.objects _

pub ids-with_change : (t : Table) (at slot : ℕ) (change : Slot → Slot) → ids (with_changed_slot t at slot change) ≡ ids t
unfolding with_changed_slot
ids-with_change t at slot change = map_agree (with_slot at slot change) (λ o. o.id) (id-with_slot at slot change) t.objects

pub ids-with_root : (t : Table) (name : List ℕ) (to : Option ℕ) → ids (with_root t name to) ≡ ids t
unfolding with_root
ids-with_root t name None = refl
ids-with_root t name (Some id) = refl

pub ids-with_only : (kept : List ℕ) (t : Table) → ids (with_only kept t) ≡ filter (has_id kept) (ids t)
unfolding with_only
ids-with_only kept t =
    map_agree (object_without (λ id. not (has_id kept id))) (λ o. o.id) (λ o. refl) (filter (λ o. has_id kept o.id) t.objects) ∙ map-filter (has_id kept) (λ o. o.id) t.objects

pub ids-cut_off : (gone : ℕ → Bool) (t : Table) → ids (cut_off gone t) ≡ ids t
ids-cut_off gone t = map_agree (object_without gone) (λ o. o.id) (λ o. refl) t.objects

-- ---- each operation

rise_same : (t u : Table) → ids u ≡ ids t → u.greatest ≡ t.greatest → IdsRise t → IdsRise u
rise_same t u same greatest rise = record {
  rising = subst (AllPairs (λ x y. x < y)) (sym same) rise.rising;
  within = subst (λ xs. All (λ id. id ≤ u.greatest) xs) (sym same) (subst (λ n. All (λ id. id ≤ n) (ids t)) (sym greatest) rise.within);
}

alloc_rises : (t : Table) (id : ℕ) (kind : List ℕ) (slots : ℕ) → t.greatest < id → IdsRise t → IdsRise (with_object t id kind slots)
unfolding with_object
alloc_rises t id kind slots new rise = record {
  rising =
      subst (AllPairs (λ x y. x < y)) (sym (ids-with_object t id kind slots)) (all_pairs_push (λ x y. x < y) (ids t) id rise.rising (λ k d within. let low = rise.within k d within in omega arith));
  within =
      subst (All (λ x. x ≤ id)) (sym (ids-with_object t id kind slots))
      (All-push (λ x. x ≤ id) (ids t) id (All-weaker (λ x. x ≤ t.greatest) (λ x. x ≤ id) (λ x low. omega arith) (ids t) rise.within) (omega arith));
}

only_rises : (kept : List ℕ) (t : Table) → IdsRise t → IdsRise (with_only kept t)
unfolding with_only
only_rises kept t rise = record {
  rising = subst (AllPairs (λ x y. x < y)) (sym (ids-with_only kept t)) (AllPairs-filter (λ x y. x < y) (has_id kept) (ids t) rise.rising);
  within = subst (All (λ id. id ≤ t.greatest)) (sym (ids-with_only kept t)) (All-filter (has_id kept) (λ id. id ≤ t.greatest) (ids t) rise.within);
}

greatest-with_root : (t : Table) (name : List ℕ) (to : Option ℕ) → (with_root t name to).greatest ≡ t.greatest
unfolding with_root
greatest-with_root t name None = refl
greatest-with_root t name (Some id) = refl

change_rises : (t : Table) (at slot : ℕ) (change : Slot → Slot) → IdsRise t → IdsRise (with_changed_slot t at slot change)
unfolding with_changed_slot
change_rises t at slot change rise = rise_same t (with_changed_slot t at slot change) (ids-with_change t at slot change) refl rise

step_rises : (h : Heap) (event : Event) → IdsRise h.table → IfOk (step h event) (λ next. IdsRise next.table)
unfolding step
step_rises h (Alloc id kind slots thread) rise =
    IfOk-unless (λ next. IdsRise next.table) _ _ (λ none. alloc_rises h.table id kind slots (alloc_refusal-None h.table id kind slots none) rise)
step_rises h (Store at slot to) rise =
    IfOk-unless (λ next. IdsRise next.table) _ _ (λ none. change_rises h.table at slot (slot_holding to) rise)
step_rises h (SetWeak at slot weak) rise =
    IfOk-unless (λ next. IdsRise next.table) _ _ (λ none. change_rises h.table at slot (slot_made_weak weak) rise)
step_rises h (Root name to) rise =
    IfOk-unless (λ next. IdsRise next.table) _ _ (λ none. rise_same h.table (with_root h.table name to) (ids-with_root h.table name to) (greatest-with_root h.table name to) rise)
step_rises h (AssertDead id) rise = IfOk-unless (λ next. IdsRise next.table) _ _ (λ none. rise)
step_rises h (StartRegion thread) rise = IfOk-unless (λ next. IdsRise next.table) _ _ (λ none. rise)
step_rises h (AssertAllDead thread) rise = IfOk-unless (λ next. IdsRise next.table) _ _ (λ none. rise)
step_rises h (AssertInstances kind limit) rise =
    IfOk-unless (λ next. IdsRise next.table) _ _ (λ none. rise_same h.table _ refl refl rise)
step_rises h (AssertUnshared id) rise = IfOk-unless (λ next. IdsRise next.table) _ _ (λ none. rise)
step_rises h (AssertOwnedBy owner ownee) rise = IfOk-unless (λ next. IdsRise next.table) _ _ (λ none. rise)
step_rises h Collect rise = rise

collect_rises : (rules : Rules) (h : Heap) → IdsRise h.table → IdsRise (after_collection rules h).table
unfolding after_collection after_sweep
collect_rises rules h rise =
    let left = with_only (traced_ids h) h.table in
    let gone = has_id (ids_to_clear rules h) in
    rise_same left (cut_off gone left) (ids-cut_off gone left) refl (only_rises (traced_ids h) h.table rise)

pub ids_always_rise : IdsAlwaysRise
ids_always_rise = (λ most possible. record { rising = λ i j d less within. absurd (omega arith); within = All-nil _ }, step_rises, collect_rises)
