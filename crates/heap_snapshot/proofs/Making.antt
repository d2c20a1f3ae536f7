-- The steps of a heap in which no region is open and nothing is asserted.
use Rattle.std.proofs.Common.{◌≡◌, ℕ, ◌<◌, ◌≤◌, List, [], ◌∷◌, ◌++◌, map, get_or, slice_set, Option, None, Some, Result, Ok, Err, sym, ap, ◌∙◌, subst, ⊎_elim, arith}
use Rattle.std.specs.Bool.{⊤}
use Rattle.std.specs.Result.{OnOk}
use Rattle.std.proofs.lemmas.Bool.{cases_lt}
use Rattle.std.proofs.lemmas.List.{set-get_or, get_or-replicate, get_or_past, length-replicate}
use Rattle.heap_base.specs.declared.limits.TheConstants.{MOST_THREADS}
use Rattle.graph_meaning.specs.declared.event.Event.TheVariants.{Alloc, Store, Root}
use Rattle.graph_meaning.specs.declared.refusal.Refusal.{Refusal}
use Rattle.graph_meaning.specs.declared.refusal.Stop.{Stop}
use Rattle.graph_meaning.specs.declared.refusal.Stop.TheVariants.{Refused, OutOfMemory}
use Rattle.graph_meaning.specs.Answers.{RefusesBy}
use Rattle.graph_meaning.specs.Heap.{Heap, Table, no_regions}
use Rattle.graph_meaning.specs.Step.{alloc_refusal, store_refusal, root_refusal, with_object, with_changed_slot, slot_holding, with_root, with_member, heap_unless, step}
use Rattle.heap_snapshot.specs.FromTrace.{bare_heap, Answers}

no_region : (thread : ℕ) → get_or no_regions thread [] ≡ []
no_region thread =
    ⊎_elim (λ (within : thread < MOST_THREADS). get_or-replicate {A = List (List ℕ)} MOST_THREADS thread [] [] within)
    (λ (past : MOST_THREADS ≤ thread). get_or_past no_regions thread [] (omega (arith, length-replicate {A = List (List ℕ)} MOST_THREADS []))) (cases_lt thread MOST_THREADS)

-- an id is put into no region
no_member : (thread id : ℕ) → with_member no_regions thread id ≡ no_regions
no_member thread id =
    ap (λ (rs : List (List ℕ)). slice_set no_regions thread (map (λ r. r ++ id ∷ []) rs)) (no_region thread)
    ∙ ap (slice_set no_regions thread) (sym (no_region thread)) ∙ set-get_or no_regions thread []

-- what the table answered is what the step leads to
answers : (found : Option Refusal) (r : Result ⊤ Stop) (next after : Heap) → RefusesBy r found → OnOk r (after ≡ next) → Answers (heap_unless found next) r after
answers None (Ok done) next after is same = ap (λ h. Ok h) (sym same)
answers (Some x) (Ok done) next after is same = absurd (cc)
answers None (Err (Refused x)) next after is same = absurd (cc)
answers (Some y) (Err (Refused x)) next after is same = ap (λ (o : Option Refusal). heap_unless o next) is
answers found (Err OutOfMemory) next after is same = tt

on_heap : (r : Result ⊤ Stop) (u t : Table) → OnOk r (u ≡ t) → OnOk r (bare_heap u ≡ bare_heap t)
on_heap (Ok done) u t same = ap bare_heap same
on_heap (Err e) u t same = tt

pub alloc_answers : (t u : Table) (id : ℕ) (kind : List ℕ) (slots thread : ℕ) (r : Result ⊤ Stop) → RefusesBy r (alloc_refusal t id kind slots) → OnOk r (u ≡ with_object t id kind slots)
    → Answers (step (bare_heap t) (Alloc id kind slots thread)) r (bare_heap u)
unfolding step
alloc_answers t u id kind slots thread r is same =
    subst (λ (rs : List (List (List ℕ))). Answers
    (heap_unless (alloc_refusal t id kind slots) (record (bare_heap t) { table = with_object t id kind slots; regions = rs })) r (bare_heap u))
    (sym (no_member thread id))
    (answers (alloc_refusal t id kind slots) r (bare_heap (with_object t id kind slots)) (bare_heap u) is (on_heap r u (with_object t id kind slots) same))

pub store_answers : (t u : Table) (at slot : ℕ) (to : Option ℕ) → store_refusal t at slot to ≡ None →
    u ≡ with_changed_slot t at slot (slot_holding to) → step (bare_heap t) (Store at slot to) ≡ Ok (bare_heap u)
unfolding step
store_answers t u at slot to none same =
    ap (λ (o : Option Refusal). heap_unless o (bare_heap (with_changed_slot t at slot (slot_holding to)))) none ∙ ap (λ (x : Table). Ok (bare_heap x)) (sym same)

pub store_refuses : (t : Table) (at slot : ℕ) (to : Option ℕ) (x : Refusal) → store_refusal t at slot to ≡ Some x → step (bare_heap t) (Store at slot to) ≡ Err x
unfolding step
store_refuses t at slot to x is = ap (λ (o : Option Refusal). heap_unless o (bare_heap (with_changed_slot t at slot (slot_holding to)))) is

pub root_answers : (t u : Table) (name : List ℕ) (to : Option ℕ) (r : Result ⊤ Stop) → RefusesBy r (root_refusal t name to) →
    OnOk r (u ≡ with_root t name to) → Answers (step (bare_heap t) (Root name to)) r (bare_heap u)
unfolding step
root_answers t u name to r is same =
    answers (root_refusal t name to) r (bare_heap (with_root t name to)) (bare_heap u) is (on_heap r u (with_root t name to) same)
