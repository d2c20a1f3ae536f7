-- No slot is weak that no operation made weak.
use Rattle.std.proofs.Common.{◌≡◌, ℕ, Bool, true, false, cond, ⊎_elim, List, length, get_or, map, sym, refl, subst, All, slice_set, ◌==◌, None, IfOk}
use Rattle.std.specs.Option.{option_map_or}
use Rattle.std.proofs.lemmas.Bool.{cases_lt}
use Rattle.std.proofs.lemmas.List.{get_or_past}
use Rattle.std.proofs.lemmas.List.Elements.{All-nil, All-weaker, All-filter, All-map, All-set, All-push, All-replicate}
use Rattle.graph_meaning.specs.declared.event.Event.{Event}
use Rattle.graph_meaning.specs.declared.event.Event.TheVariants.{Alloc, Store, SetWeak, Root, AssertDead, StartRegion, AssertAllDead, AssertInstances, AssertUnshared, AssertOwnedBy, Collect}
use Rattle.graph_meaning.specs.Heap.{Slot, Object, Heap, empty_slot}
use Rattle.graph_meaning.specs.Collecting.{Rules, slot_without, object_without, with_only, after_sweep, after_collection}
use Rattle.graph_meaning.specs.Step.{with_object, with_slot, with_changed_slot, slot_holding, slot_made_weak, step}
use Rattle.graph_meaning.specs.Laws.{NoneWeak, makes_weak, WeakOnlyByOperation}
use Rattle.graph_meaning.proofs.HeapLemmas.{objects-with_root}
use Rattle.graph_meaning.proofs.Keeping.{IfOk-unless}

abbrev IsStrong : Slot → Type 0
IsStrong s = s.weak ≡ false

abbrev AreStrong : Object → Type 0
AreStrong o = All IsStrong o.slots

-- a change of a slot after which it isn't weak
change_strong : (h : Heap) (at slot : ℕ) (change : Slot → Slot) → ((s : Slot) → IsStrong s → IsStrong (change s)) → NoneWeak h → All AreStrong (with_changed_slot h.table at slot change).objects
unfolding with_changed_slot
change_strong h at slot change strong none =
    All-map AreStrong (with_slot at slot change) h.table.objects (All-weaker AreStrong (λ o. AreStrong (with_slot at slot change o)) (λ o old. go o (o.id == at) old) h.table.objects none)
  where
    slot_at : (slots : List Slot) → All IsStrong slots → IsStrong (get_or slots slot empty_slot)
    slot_at slots old =
        ⊎_elim
        (λ within. old slot empty_slot within)
        (λ past. subst IsStrong (sym (get_or_past slots slot empty_slot past)) refl)
        (cases_lt slot (length slots))

    go : (o : Object) (b : Bool) → AreStrong o → All IsStrong (cond b (record o { slots = slice_set o.slots slot (change (get_or o.slots slot empty_slot)) }) o).slots
    go o true old = All-set IsStrong o.slots slot _ (strong _ (slot_at o.slots old)) old
    go o false old = old

step_strong : (h : Heap) (event : Event) → makes_weak event ≡ false → NoneWeak h → IfOk (step h event) NoneWeak
unfolding step with_object
step_strong h (Alloc id kind slots thread) not none =
    IfOk-unless NoneWeak _ _ (λ _. All-push AreStrong h.table.objects _ none (All-replicate IsStrong slots empty_slot refl))
step_strong h (Store at slot to) not none = IfOk-unless NoneWeak _ _ (λ _. change_strong h at slot (slot_holding to) (λ s old. old) none)
step_strong h (SetWeak at slot weak) not none = IfOk-unless NoneWeak _ _ (λ _. change_strong h at slot (slot_made_weak weak) (λ s old. not) none)
step_strong h (Root name to) not none = IfOk-unless NoneWeak _ _ (λ _. subst (All AreStrong) (sym (objects-with_root h.table name to)) none)
step_strong h (AssertDead id) not none = IfOk-unless NoneWeak _ _ (λ _. none)
step_strong h (StartRegion thread) not none = IfOk-unless NoneWeak _ _ (λ _. none)
step_strong h (AssertAllDead thread) not none = IfOk-unless NoneWeak _ _ (λ _. none)
step_strong h (AssertInstances kind limit) not none = IfOk-unless NoneWeak _ _ (λ _. none)
step_strong h (AssertUnshared id) not none = IfOk-unless NoneWeak _ _ (λ _. none)
step_strong h (AssertOwnedBy owner ownee) not none = IfOk-unless NoneWeak _ _ (λ _. none)
step_strong h Collect not none = none

-- a slot that is emptied is weak or not as before
without_strong : (gone : ℕ → Bool) (objects : List Object) → All AreStrong objects → All AreStrong (map (object_without gone) objects)
without_strong gone objects none =
    All-map AreStrong (object_without gone) objects
    (All-weaker AreStrong (λ o. AreStrong (object_without gone o))
    (λ o old. All-map IsStrong (slot_without gone) o.slots
    (All-weaker IsStrong (λ s. IsStrong (slot_without gone s)) (λ s was. go s (option_map_or gone s.held false) was) o.slots old)) objects none)
  where
    go : (s : Slot) (b : Bool) → IsStrong s → IsStrong (cond b (record s { held = None }) s)
    go s true old = old
    go s false old = old

collection_strong : (rules : Rules) (h : Heap) → NoneWeak h → NoneWeak (after_collection rules h)
unfolding after_collection after_sweep with_only
collection_strong rules h none = without_strong _ _ (without_strong _ _ (All-filter _ AreStrong h.table.objects none))

pub weak_only_by_operation : WeakOnlyByOperation
weak_only_by_operation = (λ most. All-nil AreStrong, step_strong, collection_strong)
