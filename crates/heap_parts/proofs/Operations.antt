-- The operations of a trace, each on the parts of a heap.
use Rattle.std.proofs.Common.{◌≡◌, ℕ, ◌+◌, ◌<◌, ◌≤◌, Bool, true, false, cond, ◌-◌, List, [], ◌∷◌, ◌++◌, length, fold, replicate, Option, None}
use Rattle.std.proofs.Common.{Some, Result, Ok, Err, sym, ap, refl, subst, ◌∙◌, arith, slice_set, ⊎_elim, eqb-true, eq-eqb, is_some}
use Rattle.std.specs.Prelude.{◌==◌}
use Rattle.std.specs.BTreeMap.{insert_entry}
use Rattle.std.specs.BTreeSet.{insert_key}
use Rattle.std.specs.List.{position}
use Rattle.std.specs.Ordering.{nat_cmp}
use Rattle.std.specs.Result.{OnOk, OnErr}
use Rattle.std.specs.Str.{bytes_eq}
use Rattle.std.proofs.lemmas.Bool.{false≢true, cases_Bool}
use Rattle.std.proofs.lemmas.List.{length_push, append-nil, length-append, length-replicate, get_or-set_other}
use Rattle.std.proofs.lemmas.List.Quantifiers.{position-Some}
use Rattle.std.proofs.lemmas.Result.{on_ok_weaker, on_err_weaker}
use Rattle.graph_meaning.specs.declared.event.Event.{Event}
use Rattle.graph_meaning.specs.declared.event.Event.TheVariants.{Alloc, Store, SetWeak, Root, AssertDead, StartRegion, AssertAllDead, AssertInstances, AssertUnshared, AssertOwnedBy}
use Rattle.graph_meaning.specs.declared.refusal.Refusal.{Refusal}
use Rattle.graph_meaning.specs.declared.refusal.Refusal.TheVariants.{SelfOwned}
use Rattle.graph_meaning.specs.declared.refusal.Stop.{Stop}
use Rattle.graph_meaning.specs.Answers.{RefusesBy}
use Rattle.graph_meaning.specs.Heap.{Slot, Table, Heap, name_cmp, is_seen, regions_of}
use Rattle.graph_meaning.specs.Step.{first_refusal, refusal_where, not_live, kind_refusal, alloc_refusal, with_object, store_refusal, slot_refusal}
use Rattle.graph_meaning.specs.Step.{with_changed_slot, slot_holding, slot_made_weak, root_refusal, with_root, with_kind, with_member, heap_unless}
use Rattle.graph_meaning.specs.Step.{step}
use Rattle.graph_meaning.proofs.Keeping.{regions_of-live}
use Rattle.graph_meaning.proofs.Rising.{alloc_refusal-None}
use Rattle.object_table.specs.Placed.{PlacedTable}
use Rattle.assert_registry.specs.Assertions.{Assertions, AreOfSeenTypes, with_room}
use Rattle.assert_registry.proofs.ByName.{room_changes_no_limit}
use Rattle.region_log.specs.Regions.{RegionTable, AreNested, IsAbove, start_refusal, end_refusal, with_region, without_innermost, without_innermost_ids, innermost}
use Rattle.region_log.proofs.Above.{IsAbove-live}
use Rattle.region_log.proofs.Steps.{step-start_region, step-assert_all_dead}
use Rattle.sweep.specs.Parts.{PartsOfHeap}
use Rattle.heap_parts.specs.Parts.{IsWellFormed, AreParts, AreUnasserted, Steps, heap_of, placed_heap, named_limits}
use Rattle.heap_parts.proofs.Limits.{named-with_kind, named-with_room, named-set}
use Rattle.heap_parts.proofs.Stepping.{steps-by, parts-after}
use Rattle.heap_parts.proofs.Unasserted.{Agree, Within, agree-finish, agree-more, agree-note, agree-same, agree-start, all-inserted, inserted_agree, within-insert, within-inserted}

-- ---- what `step` says of each operation

step-alloc : (h : Heap) (id : ℕ) (kind : List ℕ) (slots thread : ℕ) →
    step h (Alloc id kind slots thread) ≡ heap_unless (alloc_refusal h.table id kind slots) (record h { table = with_object h.table id kind slots; regions = with_member h.regions thread id })
unfolding step
step-alloc h id kind slots thread = refl

step-store : (h : Heap) (at slot : ℕ) (to : Option ℕ) →
    step h (Store at slot to) ≡ heap_unless (store_refusal h.table at slot to) (record h { table = with_changed_slot h.table at slot (slot_holding to) })
unfolding step
step-store h at slot to = refl

step-set_weak : (h : Heap) (at slot : ℕ) (weak : Bool) →
    step h (SetWeak at slot weak) ≡ heap_unless (slot_refusal h.table at slot) (record h { table = with_changed_slot h.table at slot (slot_made_weak weak) })
unfolding step
step-set_weak h at slot weak = refl

step-root : (h : Heap) (name : List ℕ) (to : Option ℕ) → step h (Root name to) ≡ heap_unless (root_refusal h.table name to) (record h { table = with_root h.table name to })
unfolding step
step-root h name to = refl

step-assert_dead : (h : Heap) (id : ℕ) → step h (AssertDead id) ≡ heap_unless (not_live h.table id) (record h { dead = insert_key nat_cmp h.dead id })
unfolding step
step-assert_dead h id = refl

step-assert_unshared : (h : Heap) (id : ℕ) → step h (AssertUnshared id) ≡ heap_unless (not_live h.table id) (record h { unshared = insert_key nat_cmp h.unshared id })
unfolding step
step-assert_unshared h id = refl

-- why an owner or an ownee is refused
abbrev pub ownedby_refusal : Table → ℕ → ℕ → Option Refusal
ownedby_refusal t owner ownee =
    first_refusal (not_live t owner) (first_refusal (not_live t ownee) (refusal_where (owner == ownee) (SelfOwned owner)))

step-assert_ownedby : (h : Heap) (owner ownee : ℕ) →
    step h (AssertOwnedBy owner ownee) ≡ heap_unless (ownedby_refusal h.table owner ownee) (record h { owners = insert_entry nat_cmp h.owners ownee owner })
unfolding step
step-assert_ownedby h owner ownee = refl

step-assert_instances : (h : Heap) (kind : List ℕ) (limit : ℕ) →
    step h (AssertInstances kind limit)
    ≡ heap_unless (kind_refusal h.table kind) (record h { table = record h.table { kinds = with_kind h.table.kinds kind }; limits = insert_entry name_cmp h.limits kind limit })
unfolding step
step-assert_instances h kind limit = refl

-- ---- which types were seen

kinds-with_object : (t : Table) (id : ℕ) (kind : List ℕ) (slots : ℕ) → (with_object t id kind slots).kinds ≡ with_kind t.kinds kind
unfolding with_object
kinds-with_object t id kind slots = refl

kinds-with_change : (t : Table) (at slot : ℕ) (change : Slot → Slot) → (with_changed_slot t at slot change).kinds ≡ t.kinds
unfolding with_changed_slot
kinds-with_change t at slot change = refl

kinds-with_root : (t : Table) (name : List ℕ) (to : Option ℕ) → (with_root t name to).kinds ≡ t.kinds
unfolding with_root
kinds-with_root t name None = refl
kinds-with_root t name (Some id) = refl

-- a type that was seen stays seen
pub seen-with_kind : (limits : List (Option ℕ)) (kinds : List (List ℕ)) (kind : List ℕ) → AreOfSeenTypes limits kinds → AreOfSeenTypes limits (with_kind kinds kind)
seen-with_kind limits kinds kind seen k some = go (is_seen kinds kind)
  where
    go : (b : Bool) → k < length (cond b kinds (kinds ++ kind ∷ []))
    go true = seen k some
    go false = let before = seen k some in let more = length_push kinds kind in omega (arith, before, more)

-- ---- an operation that changes slots or roots alone

module _ {T : Type 0} (s : PartsOfHeap) (are : AreParts s) (after : PlacedTable) (result : Result T Stop) where
  abbrev s' : PartsOfHeap
  s' = record s { placed = after }

  abbrev table_change : Event → Option Refusal → Table → Type 0
  table_change event refusal t =
      step (heap_of s) event ≡ heap_unless refusal (record (heap_of s) { table = t }) → t.kinds ≡ s.placed.table.kinds → RefusesBy result refusal →
      OnOk result (after.table ≡ t) → OnErr result (after ≡ s.placed) → Steps (placed_heap s) event result (placed_heap s') × AreParts s'

  steps-table : (event : Event) (refusal : Option Refusal) (t : Table) → table_change event refusal t
  steps-table event refusal t means kinds refused leaves err = (steps, parts-after s s' event result steps are seen are.unasserted)
    where
      left : OnOk result (heap_of s' ≡ record (heap_of s) { table = t })
      left =
          on_ok_weaker result
          (λ e. ap (λ table. record (heap_of s) { table = table; limits = named_limits table.kinds s.assertions.limits }) e
          ∙ ap (λ ks. record (heap_of s) { table = t; limits = named_limits ks s.assertions.limits }) kinds) leaves

      steps : Steps (placed_heap s) event result (placed_heap s')
      steps =
          steps-by (placed_heap s) (placed_heap s') event refusal (record (heap_of s) { table = t }) means result refused left
          (on_err_weaker result (λ e. ap (λ placed. placed_heap (record s { placed = placed })) e) err)

      same_kinds : (r : Result T Stop) → OnOk r (after.table ≡ t) → OnErr r (after ≡ s.placed) → after.table.kinds ≡ s.placed.table.kinds
      same_kinds (Ok x) done undone = ap (λ (table : Table). table.kinds) done ∙ kinds
      same_kinds (Err e) done undone = ap (λ (p : PlacedTable). p.table.kinds) undone

      seen : AreOfSeenTypes s.assertions.limits after.table.kinds
      seen = subst (AreOfSeenTypes s.assertions.limits) (sym (same_kinds result leaves err)) are.seen

  pub steps-store : (at slot : ℕ) (to : Option ℕ) → RefusesBy result (store_refusal s.placed.table at slot to) →
      OnOk result (after.table ≡ with_changed_slot s.placed.table at slot (slot_holding to)) → OnErr result (after ≡ s.placed) →
      Steps (placed_heap s) (Store at slot to) result (placed_heap s') × AreParts s'
  steps-store at slot to =
      let t = s.placed.table in
      steps-table (Store at slot to) (store_refusal t at slot to) (with_changed_slot t at slot (slot_holding to)) (step-store (heap_of s) at slot to) (kinds-with_change t at slot (slot_holding to))

  pub steps-set_weak : (at slot : ℕ) (weak : Bool) → RefusesBy result (slot_refusal s.placed.table at slot) →
      OnOk result (after.table ≡ with_changed_slot s.placed.table at slot (slot_made_weak weak)) → OnErr result (after ≡ s.placed) →
      Steps (placed_heap s) (SetWeak at slot weak) result (placed_heap s') × AreParts s'
  steps-set_weak at slot weak =
      let t = s.placed.table in
      steps-table (SetWeak at slot weak) (slot_refusal t at slot) (with_changed_slot t at slot (slot_made_weak weak))
      (step-set_weak (heap_of s) at slot weak) (kinds-with_change t at slot (slot_made_weak weak))

  pub steps-root : (name : List ℕ) (to : Option ℕ) → RefusesBy result (root_refusal s.placed.table name to) →
      OnOk result (after.table ≡ with_root s.placed.table name to) → OnErr result (after ≡ s.placed) →
      Steps (placed_heap s) (Root name to) result (placed_heap s') × AreParts s'
  steps-root name to =
      let t = s.placed.table in
      steps-table (Root name to) (root_refusal t name to) (with_root t name to) (step-root (heap_of s) name to) (kinds-with_root t name to)

-- ---- an operation that changes what is asserted of objects alone

module _ {T : Type 0} (s : PartsOfHeap) (are : AreParts s) (after : Assertions) (result : Result T Stop) where
  abbrev r' : PartsOfHeap
  r' = record s { assertions = after }

  steps-assertions : (event : Event) (refusal : Option Refusal) (a : Assertions) →
      step (heap_of s) event ≡ heap_unless refusal (heap_of (record s { assertions = a })) → a.limits ≡ s.assertions.limits →
      Within s.assertions.dead a.dead → RefusesBy result refusal → OnOk result (after ≡ a) → OnErr result (after ≡ s.assertions) →
      Steps (placed_heap s) event result (placed_heap r') × AreParts r'
  steps-assertions event refusal a means limits within refused leaves err =
      (steps, parts-after s r' event result steps are seen (agree-more s.assertions.dead after.dead (still_within result leaves err) s.regions.regions s.regions.unasserted are.unasserted))
    where
      steps : Steps (placed_heap s) event result (placed_heap r')
      steps =
          steps-by (placed_heap s) (placed_heap r') event refusal (heap_of (record s { assertions = a })) means result refused
          (on_ok_weaker result (λ e. ap (λ x. heap_of (record s { assertions = x })) e) leaves)
          (on_err_weaker result (λ e. ap (λ x. placed_heap (record s { assertions = x })) e) err)

      same_limits : (r : Result T Stop) → OnOk r (after ≡ a) → OnErr r (after ≡ s.assertions) → after.limits ≡ s.assertions.limits
      same_limits (Ok x) done undone = ap (λ (b : Assertions). b.limits) done ∙ limits
      same_limits (Err e) done undone = ap (λ (b : Assertions). b.limits) undone

      still_within : (r : Result T Stop) → OnOk r (after ≡ a) → OnErr r (after ≡ s.assertions) → Within s.assertions.dead after.dead
      still_within (Ok x) done undone = subst (λ (b : Assertions). Within s.assertions.dead b.dead) (sym done) within
      still_within (Err e) done undone = subst (λ (b : Assertions). Within s.assertions.dead b.dead) (sym undone) (λ id there. there)

      seen : AreOfSeenTypes after.limits s.placed.table.kinds
      seen = subst (λ limits. AreOfSeenTypes limits s.placed.table.kinds) (sym (same_limits result leaves err)) are.seen

  pub steps-assert_dead : (id : ℕ) → RefusesBy result (not_live s.placed.table id) →
      OnOk result (after ≡ record s.assertions { dead = insert_key nat_cmp s.assertions.dead id }) → OnErr result (after ≡ s.assertions) →
      Steps (placed_heap s) (AssertDead id) result (placed_heap r') × AreParts r'
  steps-assert_dead id =
      steps-assertions (AssertDead id) (not_live s.placed.table id) (record s.assertions { dead = insert_key nat_cmp s.assertions.dead id })
      (step-assert_dead (heap_of s) id) refl (within-insert s.assertions.dead id)

  pub steps-assert_unshared : (id : ℕ) → RefusesBy result (not_live s.placed.table id) →
      OnOk result (after ≡ record s.assertions { unshared = insert_key nat_cmp s.assertions.unshared id }) → OnErr result (after ≡ s.assertions) →
      Steps (placed_heap s) (AssertUnshared id) result (placed_heap r') × AreParts r'
  steps-assert_unshared id =
      steps-assertions (AssertUnshared id) (not_live s.placed.table id)
      (record s.assertions { unshared = insert_key nat_cmp s.assertions.unshared id }) (step-assert_unshared (heap_of s) id) refl
      (λ other there. there)

  pub steps-assert_ownedby : (owner ownee : ℕ) → RefusesBy result (ownedby_refusal s.placed.table owner ownee) →
      OnOk result (after ≡ record s.assertions { owners = insert_entry nat_cmp s.assertions.owners ownee owner }) →
      OnErr result (after ≡ s.assertions) → Steps (placed_heap s) (AssertOwnedBy owner ownee) result (placed_heap r') × AreParts r'
  steps-assert_ownedby owner ownee =
      steps-assertions (AssertOwnedBy owner ownee) (ownedby_refusal s.placed.table owner ownee)
      (record s.assertions { owners = insert_entry nat_cmp s.assertions.owners ownee owner }) (step-assert_ownedby (heap_of s) owner ownee) refl
      (λ other there. there)

-- ---- the others

-- an object is added, also to the regions
pub steps-alloc : {T : Type 0} (s : PartsOfHeap) → AreParts s →
    (after : PlacedTable) (regions : RegionTable) (result : Result T Stop) (id : ℕ) (kind : List ℕ) (slots thread : ℕ) →
    RefusesBy result (alloc_refusal s.placed.table id kind slots) →
    OnOk result ((after.table ≡ with_object s.placed.table id kind slots) × (regions.regions ≡ with_member s.regions.regions thread id)) →
    OnErr result ((after ≡ s.placed) × (regions.regions ≡ s.regions.regions)) →
    Steps (placed_heap s) (Alloc id kind slots thread) result (placed_heap (record s { placed = after; regions = regions }))
steps-alloc {T} s are after regions result id kind slots thread refused leaves err =
    steps-by (placed_heap s) (placed_heap (record s { placed = after; regions = regions })) (Alloc id kind slots thread)
    (alloc_refusal t id kind slots) (record (heap_of s) { table = with_object t id kind slots; regions = with_member s.regions.regions thread id })
    (step-alloc (heap_of s) id kind slots thread) result refused
    (on_ok_weaker result
    (λ e.
    (λ i. record (heap_of s) { table = e.0 i; regions = e.1 i; limits = named_limits (e.0 i).kinds s.assertions.limits })
    ∙ ap (λ named. record (heap_of s) { table = with_object t id kind slots; regions = with_member s.regions.regions thread id; limits = named })
    (ap (λ ks. named_limits ks s.assertions.limits) (kinds-with_object t id kind slots) ∙ named-with_kind t.kinds kind s.assertions.limits are.seen))
    leaves)
    (on_err_weaker result
    (λ e. λ i. record {
      heap = record (heap_of s) { table = (e.0 i).table; regions = e.1 i; limits = named_limits (e.0 i).table.kinds s.assertions.limits };
      cells = (e.0 i).cells;
    }) err)
  where
    t : Table
    t = s.placed.table

-- a region begins
pub steps-start_region : {T : Type 0} (s : PartsOfHeap) → AreParts s → (after : RegionTable) (result : Result T Stop) (thread : ℕ) →
    RefusesBy result (start_refusal s.regions.regions thread) →
    OnOk result ((after.regions ≡ with_region s.regions.regions thread) × (after.unasserted ≡ with_region s.regions.unasserted thread)) →
    OnErr result (after ≡ s.regions) →
    Steps (placed_heap s) (StartRegion thread) result (placed_heap (record s { regions = after })) × AreParts (record s { regions = after })
steps-start_region {T} s are after result thread refused leaves err =
    (steps, parts-after s (record s { regions = after }) (StartRegion thread) result steps are are.seen (agree result leaves err))
  where
    steps : Steps (placed_heap s) (StartRegion thread) result (placed_heap (record s { regions = after }))
    steps =
        steps-by (placed_heap s) (placed_heap (record s { regions = after })) (StartRegion thread) (start_refusal s.regions.regions thread)
        (record (heap_of s) { regions = with_region s.regions.regions thread }) (step-start_region (heap_of s) thread) result refused
        (on_ok_weaker result (λ e. ap (λ rs. record (heap_of s) { regions = rs }) e.0) leaves)
        (on_err_weaker result (λ e. ap (λ (r : RegionTable). placed_heap (record s { regions = r })) e) err)

    agree : (r : Result T Stop) →
        OnOk r ((after.regions ≡ with_region s.regions.regions thread) × (after.unasserted ≡ with_region s.regions.unasserted thread)) →
        OnErr r (after ≡ s.regions) → Agree s.assertions.dead after.regions after.unasserted
    agree (Ok x) done undone =
        agree-same s.assertions.dead done.0 done.1 (agree-start s.assertions.dead s.regions.regions s.regions.unasserted are.unasserted thread)
    agree (Err e) done undone = subst (λ (r : RegionTable). Agree s.assertions.dead r.regions r.unasserted) (sym undone) are.unasserted

-- What the end of a region leaves of the parts: what was unasserted in it is asserted dead, and it is open no longer.
pub record EndsRegion (s : PartsOfHeap) (thread : ℕ) (after : PartsOfHeap) : Type 0 where
  pub placed : after.placed ≡ s.placed
  pub assertions : after.assertions ≡ record s.assertions { dead = fold (insert_key nat_cmp) s.assertions.dead (innermost s.regions.unasserted thread) }
  pub regions : after.regions.regions ≡ without_innermost s.regions.regions thread
  pub unasserted : after.regions.unasserted ≡ without_innermost_ids s.regions.unasserted thread
  pub nested : AreNested (regions_of s.regions.unasserted thread)

-- a region ends, and its objects are asserted dead
pub steps-assert_all_dead : {T : Type 0} (s : PartsOfHeap) → AreParts s → (after : PartsOfHeap) (result : Result T Stop) (thread : ℕ) →
    RefusesBy result (end_refusal s.regions.regions thread) → OnOk result (EndsRegion s thread after) → OnErr result (after ≡ s) →
    Steps (placed_heap s) (AssertAllDead thread) result (placed_heap after) × AreParts after
steps-assert_all_dead {T} s are after result thread refused leaves err =
    (steps, parts-after s after (AssertAllDead thread) result steps are (seen result leaves err) (agree result leaves err))
  where
    dead : List ℕ
    dead = fold (insert_key nat_cmp) s.assertions.dead (innermost s.regions.unasserted thread)

    -- what is asserted dead is all that is in the region
    all_dead : dead ≡ fold (insert_key nat_cmp) s.assertions.dead (innermost s.regions.regions thread)
    all_dead = inserted_agree s.assertions.dead are.heap.ordered.dead s.regions.regions s.regions.unasserted are.unasserted thread

    -- what the operation makes of the heap
    left : Heap
    left = record (heap_of s) { regions = without_innermost s.regions.regions thread; dead = fold (insert_key nat_cmp) s.assertions.dead (innermost s.regions.regions thread) }

    steps : Steps (placed_heap s) (AssertAllDead thread) result (placed_heap after)
    steps =
        steps-by (placed_heap s) (placed_heap after) (AssertAllDead thread) (end_refusal s.regions.regions thread) left (step-assert_all_dead (heap_of s) thread)
        result refused
        (on_ok_weaker result
        (λ (e : EndsRegion s thread after).
        (λ i. record (heap_of (record s { placed = e.placed i; assertions = e.assertions i })) { regions = e.regions i })
        ∙ ap (λ ids. record (heap_of s) { regions = without_innermost s.regions.regions thread; dead = ids }) all_dead)
        leaves)
        (on_err_weaker result (λ e. ap placed_heap e) err)

    seen : (r : Result T Stop) → OnOk r (EndsRegion s thread after) → OnErr r (after ≡ s) → AreOfSeenTypes after.assertions.limits after.placed.table.kinds
    seen (Ok x) e undone =
        subst (λ (p : PlacedTable). AreOfSeenTypes after.assertions.limits p.table.kinds) (sym e.placed)
        (subst (λ (a : Assertions). AreOfSeenTypes a.limits s.placed.table.kinds) (sym e.assertions) are.seen)
    seen (Err x) e undone = subst (λ (p : PartsOfHeap). AreOfSeenTypes p.assertions.limits p.placed.table.kinds) (sym undone) are.seen

    agree : (r : Result T Stop) → OnOk r (EndsRegion s thread after) → OnErr r (after ≡ s) → AreUnasserted after
    agree (Ok x) e undone =
        subst (λ (a : Assertions). Agree a.dead after.regions.regions after.regions.unasserted) (sym e.assertions)
        (agree-same dead e.regions e.unasserted
        (agree-finish dead s.regions.regions s.regions.unasserted
        (agree-more s.assertions.dead dead (within-inserted (innermost s.regions.unasserted thread) s.assertions.dead) s.regions.regions s.regions.unasserted are.unasserted)
        thread e.nested (all-inserted (innermost s.regions.unasserted thread) s.assertions.dead)))
    agree (Err x) e undone = subst AreUnasserted (sym undone) are.unasserted

-- ---- an owner and an ownee

pub refused_owner : (t : Table) (owner ownee : ℕ) (r : Refusal) → not_live t owner ≡ Some r → ownedby_refusal t owner ownee ≡ Some r
refused_owner t owner ownee r gone =
    ap (λ o. first_refusal o (first_refusal (not_live t ownee) (refusal_where (owner == ownee) (SelfOwned owner)))) gone

pub refused_ownee : (t : Table) (owner ownee : ℕ) (r : Refusal) → not_live t owner ≡ None → not_live t ownee ≡ Some r → ownedby_refusal t owner ownee ≡ Some r
refused_ownee t owner ownee r live gone =
    λ i. first_refusal (live i) (first_refusal (gone i) (refusal_where (owner == ownee) (SelfOwned owner)))

-- where both are live, only an object that is to own itself is refused
pub refused_self : {T : Type 0} (t : Table) (owner ownee : ℕ) (result : Result T Stop) → not_live t owner ≡ None → not_live t ownee ≡ None →
    RefusesBy result (refusal_where (owner == ownee) (SelfOwned owner)) → RefusesBy result (ownedby_refusal t owner ownee)
refused_self t owner ownee result live other_live refused =
    subst (RefusesBy result) (λ i. first_refusal (sym live i) (first_refusal (sym other_live i) (refusal_where (owner == ownee) (SelfOwned owner)))) refused

-- ---- a new object and the regions

-- the id of a new object is above all in the regions
pub new_id-above : (s : PartsOfHeap) → AreParts s → (id : ℕ) (kind : List ℕ) (slots thread : ℕ) → alloc_refusal s.placed.table id kind slots ≡ None → IsAbove id (regions_of s.regions.regions thread)
new_id-above s are id kind slots thread none =
    IsAbove-live s.placed.table (regions_of s.regions.regions thread) id are.heap.rising (alloc_refusal-None s.placed.table id kind slots none)
    (regions_of-live s.placed.table s.regions.regions thread are.heap.refers.regions)

-- the parts with a new object
pub parts-alloc : (s : PartsOfHeap) → AreParts s → (after : PlacedTable) (regions : RegionTable) (id : ℕ) (kind : List ℕ) (slots thread : ℕ) →
    alloc_refusal s.placed.table id kind slots ≡ None → after.table ≡ with_object s.placed.table id kind slots →
    regions.regions ≡ with_member s.regions.regions thread id → regions.unasserted ≡ with_member s.regions.unasserted thread id →
    AreParts (record s { placed = after; regions = regions })
parts-alloc s are after regions id kind slots thread none added noted unasserted =
    parts-after s (record s { placed = after; regions = regions }) (Alloc id kind slots thread) (Ok tt)
    (steps-alloc {T = Unit {0}} s are after regions (Ok tt) id kind slots thread none (added, noted) tt) are
    (subst (AreOfSeenTypes s.assertions.limits) (sym (ap (λ (t : Table). t.kinds) added ∙ kinds-with_object s.placed.table id kind slots))
    (seen-with_kind s.assertions.limits s.placed.table.kinds kind are.seen))
    (agree-same s.assertions.dead noted unasserted (agree-note s.assertions.dead s.regions.regions s.regions.unasserted are.unasserted thread id))

-- ---- a limit

seen-with_room : (limits : List (Option ℕ)) (room : ℕ) (kinds : List (List ℕ)) → AreOfSeenTypes limits kinds → AreOfSeenTypes (with_room limits room) kinds
seen-with_room limits room kinds seen kind some = seen kind (sym (ap is_some (room_changes_no_limit limits room kind)) ∙ some)

-- no room more leaves all as it is
pub no_more_room : (a : Assertions) → a ≡ record a { limits = with_room a.limits 0 }
no_more_room a = ap (λ limits. record a { limits = limits }) (sym (ap (λ n. a.limits ++ replicate n None) none ∙ append-nil a.limits))
  where
    none : 0 - length a.limits ≡ 0
    none = omega arith

-- a type that was seen has a limit from now on
seen-set : (limits : List (Option ℕ)) (number limit : ℕ) (kinds : List (List ℕ)) → number < length kinds → AreOfSeenTypes limits kinds → AreOfSeenTypes (slice_set limits number (Some limit)) kinds
seen-set limits number limit kinds within seen kind some =
    ⊎_elim
    (λ here. omega (arith, eqb-true kind number here, within))
    (λ other. seen kind (sym (ap is_some (get_or-set_other limits number kind (Some limit) None (λ same. false≢true (sym other ∙ eq-eqb kind number same)))) ∙ some))
    (cases_Bool (kind == number))

-- there is room for the limit of each type that was seen, and for one more
room_for_kind : (limits : List (Option ℕ)) (kinds : List (List ℕ)) (kind : List ℕ) (number : ℕ) →
    position (bytes_eq kind) (with_kind kinds kind) ≡ Some number → number < length (with_room limits (length kinds + 1))
room_for_kind limits kinds kind number at =
    let found = (position-Some (bytes_eq kind) (with_kind kinds kind) number [] at).0 in
    let few = with_kind-length kinds kind in
    let room = length-append limits (replicate (length kinds + 1 - length limits) None) in
    let more = length-replicate {A = Option ℕ} (length kinds + 1 - length limits) None in
    omega (arith, found, few, room, more)
  where
    with_kind-length : (kinds : List (List ℕ)) (kind : List ℕ) → length (with_kind kinds kind) ≤ length kinds + 1
    with_kind-length kinds kind = go (is_seen kinds kind)
      where
        go : (b : Bool) → length (cond b kinds (kinds ++ kind ∷ [])) ≤ length kinds + 1
        go true = omega arith
        go false = let more = length_push kinds kind in omega (arith, more)

module _ (s : PartsOfHeap) (are : AreParts s) (kind : List ℕ) (limit : ℕ) where
  abbrev t : Table
  t = s.placed.table

  abbrev refusal : Option Refusal
  refusal = kind_refusal t kind

  -- the heap after it
  abbrev limited : Heap
  limited =
      record (heap_of s) { table = record t { kinds = with_kind t.kinds kind }; limits = insert_entry name_cmp (heap_of s).limits kind limit }

  -- Where it fails, there may be more room.
  pub steps-no_limit : {T : Type 0} (e : Stop) (after : PlacedTable) (assertions : Assertions) (room : ℕ) → RefusesBy {T = T} (Err e) refusal →
      after ≡ s.placed → assertions ≡ record s.assertions { limits = with_room s.assertions.limits room } →
      Steps {T = T} (placed_heap s) (AssertInstances kind limit) (Err e) (placed_heap (record s { placed = after; assertions = assertions }))
  steps-no_limit {T} e after assertions room refused same more =
      steps-by (placed_heap s) (placed_heap (record s { placed = after; assertions = assertions })) (AssertInstances kind limit) refusal limited
      (step-assert_instances (heap_of s) kind limit) (Err e) refused tt
      ((λ i. placed_heap (record s { placed = same i; assertions = more i }))
      ∙ ap (λ named. record { heap = record (heap_of s) { limits = named }; cells = s.placed.cells }) (named-with_room t.kinds s.assertions.limits room))

  pub parts-no_limit : (after : PlacedTable) (assertions : Assertions) (room : ℕ) → after ≡ s.placed →
      assertions ≡ record s.assertions { limits = with_room s.assertions.limits room } →
      AreParts (record s { placed = after; assertions = assertions })
  parts-no_limit after assertions room same more =
      subst (λ (p : PlacedTable). AreParts (record s { placed = p; assertions = assertions })) (sym same)
      (subst (λ (a : Assertions). AreParts (record s { assertions = a })) (sym more)
      (record {
        heap = subst (λ named. IsWellFormed (record (heap_of s) { limits = named })) (sym (named-with_room t.kinds s.assertions.limits room)) are.heap;
        seen = seen-with_room s.assertions.limits room t.kinds are.seen;
        unasserted = are.unasserted;
      }))

  module _ (after : PlacedTable) (assertions : Assertions) (number : ℕ) (none : refusal ≡ None)
      (seen : after.table ≡ record t { kinds = with_kind t.kinds kind }) (at : position (bytes_eq kind) after.table.kinds ≡ Some number)
      (set : assertions ≡ record s.assertions { limits = slice_set (with_room s.assertions.limits (length t.kinds + 1)) number (Some limit) }) where
    abbrev kinds : List (List ℕ)
    kinds = with_kind t.kinds kind

    same_kinds : after.table.kinds ≡ kinds
    same_kinds = ap (λ (u : Table). u.kinds) seen

    at_kinds : position (bytes_eq kind) kinds ≡ Some number
    at_kinds = subst (λ ks. position (bytes_eq kind) ks ≡ Some number) same_kinds at

    named : named_limits kinds (slice_set (with_room s.assertions.limits (length t.kinds + 1)) number (Some limit)) ≡ insert_entry name_cmp (named_limits t.kinds s.assertions.limits) kind limit
    named =
        named-set kinds (with_room s.assertions.limits (length t.kinds + 1)) kind number limit at_kinds (room_for_kind s.assertions.limits t.kinds kind number at_kinds)
        ∙ ap (λ es. insert_entry name_cmp es kind limit) (named-with_room kinds s.assertions.limits (length t.kinds + 1) ∙ named-with_kind t.kinds kind s.assertions.limits are.seen)

    pub steps-limit : {T : Type 0} (x : T) → Steps (placed_heap s) (AssertInstances kind limit) (Ok x) (placed_heap (record s { placed = after; assertions = assertions }))
    steps-limit {T} x =
        steps-by (placed_heap s) (placed_heap (record s { placed = after; assertions = assertions })) (AssertInstances kind limit) refusal limited
        (step-assert_instances (heap_of s) kind limit) (Ok x) none
        ((λ i. record (heap_of (record s { assertions = set i })) { table = seen i; limits = named_limits (seen i).kinds (set i).limits })
        ∙ ap (λ es. record (heap_of s) { table = record t { kinds = kinds }; limits = es }) named)
        tt

    pub parts-limit : AreParts (record s { placed = after; assertions = assertions })
    parts-limit =
        parts-after s (record s { placed = after; assertions = assertions }) (AssertInstances kind limit) (Ok tt) (steps-limit {T = Unit {0}} tt) are
        (subst (AreOfSeenTypes assertions.limits) (sym same_kinds)
        (subst (λ limits. AreOfSeenTypes limits kinds) (sym (ap (λ (a : Assertions). a.limits) set))
        (seen-set (with_room s.assertions.limits (length t.kinds + 1)) number limit kinds (position-Some (bytes_eq kind) kinds number [] at_kinds).0
        (seen-with_room s.assertions.limits (length t.kinds + 1) kinds (seen-with_kind s.assertions.limits t.kinds kind are.seen)))))
        (subst (λ (a : Assertions). AreUnasserted (record s { assertions = a })) (sym set) are.unasserted)
