-- A nursery in which one slot was changed.
use Rattle.std.proofs.Common.{◌≡◌, ◌≢◌, ◌⊎◌, inl, inr, ◌==◌, ℕ, ◌+◌, ◌<◌, ◌≤◌, List, [], ◌∷◌, length, filter, set, get_or, Bool, true, false, not, ◌&&◌, cond}
use Rattle.std.proofs.Common.{IsTrue, Option, None, Some, IsSome, refl, sym, ◌∙◌, ap, subst, eqb-true, eq-eqb, ne_eqb, ⊎_elim, arith}
use Rattle.std.specs.Prelude.{nat_lt}
use Rattle.std.specs.List.{All, list_any, count_by}
use Rattle.std.specs.Option.{is_some, option_map, option_map_or, option_and_then}
use Rattle.std.proofs.lemmas.Bool.{false≢true, or_cases, cases_eq, cases_lt, le-ltb}
use Rattle.std.proofs.lemmas.List.{length-map, length-set, get_or_past, get_or-set_same, get_or-set_other}
use Rattle.std.proofs.lemmas.List.Elements.{All-map, All-weaker, All-set}
use Rattle.std.proofs.lemmas.List.Sums.{sum_by-set, count_by-le-length, get_or-le-sum_by}
use Rattle.heap_base.specs.Counting.{bit}
use Rattle.heap_base.specs.declared.limits.TheConstants.{MOST_SLOTS}
use Rattle.graph_meaning.specs.declared.refusal.Refusal.TheVariants.{NotLive}
use Rattle.graph_meaning.specs.Heap.{Slot, Object, Table, empty_slot, ids, object_at, is_live, slot_count, targets}
use Rattle.graph_meaning.specs.Reach.{has_id}
use Rattle.graph_meaning.specs.Step.{with_slot, with_changed_slot, slot_holding, store_refusal, slot_refusal, target_refusal}
use Rattle.graph_meaning.proofs.Distances.{find_All}
use Rattle.graph_meaning.proofs.HeapLemmas.{has_id-ids, object_at-with_change}
use Rattle.graph_meaning.proofs.Keeping.{first_of-None}
use Rattle.graph_meaning.proofs.Membership.{length-filter_le}
use Rattle.graph_meaning.proofs.Rising.{ids-with_change}
use Rattle.object_table.specs.Placed.{PlacedTable, id_in, object_in, slot_in, IsStacked}
use Rattle.object_table.proofs.ObjectsByCell.{held-within}
use Rattle.object_table.proofs.Refusals.{slot_fits}
use Rattle.minor_gc.specs.Generations.{Generations, is_young, is_old, holds_young, remembered_set}
use Rattle.minor_gc.specs.Nurseries.{NurseryParts, generations_of, young_count, NoneWeak, IsNursery}
use Rattle.minor_gc.proofs.Added.{same_filter}
use Rattle.minor_gc.proofs.Inside.{IsSoundNursery}
use Rattle.minor_gc.proofs.Lists.{Rises, filter-in, filter-out}
use Rattle.minor_gc.proofs.Remembered.{remembers, remembered_is}
use Rattle.minor_gc.proofs.Targets.{IsStrong, AllStrong, ends_at, leads_to, count_ends, any_count}

-- ---- a store

-- The object and the slot to which a store goes, and what the slot holds then.
pub record SlotStore : Type 0 where
  pub at : ℕ
  pub slot : ℕ
  pub to : Option ℕ

-- the slots of the object after it
abbrev pub slots_then : SlotStore → List Slot → List Slot
slots_then w slots = set slots w.slot (slot_holding w.to (get_or slots w.slot empty_slot))

-- the table after it
abbrev pub table_then : SlotStore → Table → Table
table_then w t = with_changed_slot t w.at w.slot (slot_holding w.to)

-- The object of the store, which has the slot.
pub record HasSlot (t : Table) (w : SlotStore) : Type 0 where
  pub object : Object
  pub found : object_at t.objects w.at ≡ Some object
  pub within : w.slot < length object.slots

-- a store that isn't refused is to a slot of a live object
pub has_slot : (w : SlotStore) (t : Table) → IsTrue (is_live t w.at) → store_refusal t w.at w.slot w.to ≡ None → HasSlot t w
unfolding store_refusal
has_slot w t live allowed = go (object_at t.objects w.at) refl live
  where
    go : (o : Option Object) → object_at t.objects w.at ≡ o → is_some o ≡ true → HasSlot t w
    go None e live = absurd (false≢true live)
    go (Some o) e live =
        let fits = slot_fits t w.at w.slot (first_of-None (slot_refusal t w.at w.slot) (target_refusal t w.to) allowed).0 in
        record { object = o; found = e; within = omega (arith, fits, ap (λ q. option_map_or (λ (u : Object). length u.slots) q 0) e) }

-- a store in an object that isn't live is refused
pub not_live_refused : (t : Table) (at slot : ℕ) (to : Option ℕ) → is_live t at ≡ false → store_refusal t at slot to ≡ Some (NotLive at)
unfolding store_refusal
not_live_refused t at slot to dead = rw dead refl

-- ---- tables

find_id : (objects : List Object) (x : ℕ) (o : Object) → object_at objects x ≡ Some o → o.id ≡ x
find_id [] x o at = absurd cc
find_id (u ∷ objects) x o at = go (u.id == x) refl (find_id objects x o) at
  where
    go : (b : Bool) → (u.id == x) ≡ b → (object_at objects x ≡ Some o → o.id ≡ x) → cond b (Some u) (object_at objects x) ≡ Some o → o.id ≡ x
    go true e rest at = let same : u ≡ o = cc in ap (λ (v : Object). v.id) (sym same) ∙ eqb-true u.id x e
    go false e rest at = rest at

-- an object has no more slots than all have together
few_slots : (t : Table) (x : ℕ) (o : Object) → object_at t.objects x ≡ Some o → length o.slots ≤ slot_count t
few_slots t x o at =
    find_All (λ u. u.id == x) (λ u. length u.slots ≤ slot_count t) t.objects o (get_or-le-sum_by (λ (u : Object). length u.slots) t.objects) at

module _ (w : SlotStore) (t : Table) where
  strong-then : NoneWeak t → NoneWeak (table_then w t)
  unfolding with_changed_slot
  strong-then strong =
      All-map AllStrong then t.objects (All-weaker AllStrong (λ o. AllStrong (then o)) (λ o old. go o (o.id == w.at) old) t.objects strong)
    where
      then : Object → Object
      then = with_slot w.at w.slot (slot_holding w.to)

      slot_strong : (slots : List Slot) → All IsStrong slots → IsStrong (get_or slots w.slot empty_slot)
      slot_strong slots old = ⊎_elim
          (λ within. old w.slot empty_slot within)
          (λ past. ap (λ (s : Slot). s.weak) (get_or_past slots w.slot empty_slot past))
          (cases_lt w.slot (length slots))

      go : (o : Object) (b : Bool) → AllStrong o → AllStrong (cond b (record o { slots = slots_then w o.slots }) o)
      go o true old = All-set IsStrong o.slots w.slot _ (slot_strong o.slots old) old
      go o false old = old

  greatest-then : (table_then w t).greatest ≡ t.greatest
  unfolding with_changed_slot
  greatest-then = refl

  length-then : length (table_then w t).objects ≡ length t.objects
  unfolding with_changed_slot
  length-then = length-map t.objects (with_slot w.at w.slot (slot_holding w.to))

  -- the other objects hold what they held
  other_targets : (x : ℕ) → x ≢ w.at → targets (table_then w t) x ≡ targets t x
  other_targets x apart =
      ap ends_at (object_at-with_change t w.at w.slot (slot_holding w.to) x) ∙ go (object_at t.objects x) refl
    where
      go : (o : Option Object) → object_at t.objects x ≡ o → ends_at (option_map (with_slot w.at w.slot (slot_holding w.to)) o) ≡ ends_at o
      go None e = refl
      go (Some o) e =
          let other = ne_eqb o.id w.at (λ same. apart (sym (find_id t.objects x o e) ∙ same)) in
          ap (λ b. ends_at (Some (cond b (record o { slots = slots_then w o.slots }) o))) other

-- ---- the count of one object

bit_is : (b : Bool) → bit b ≡ cond b 1 0
bit_is true = refl
bit_is false = refl

module _ {t : Table} {w : SlotStore} (has : HasSlot t w) where
  abbrev pub slot_before : Slot
  slot_before = get_or has.object.slots w.slot empty_slot

  abbrev pub object_then : Object
  object_then = record has.object { slots = slots_then w has.object.slots }

  abbrev pub slot_after : Slot
  slot_after = get_or object_then.slots w.slot empty_slot

  found_then : object_at (table_then w t).objects w.at ≡ Some object_then
  found_then =
      object_at-with_change t w.at w.slot (slot_holding w.to) w.at
      ∙ ap (option_map (with_slot w.at w.slot (slot_holding w.to))) has.found
      ∙ ap (λ b. Some (cond b object_then has.object)) (eq-eqb has.object.id w.at (find_id t.objects w.at has.object has.found))

  module _ (young : ℕ → Bool) where
    count_before : count_by young (targets t w.at) ≡ count_by (leads_to young) has.object.slots
    count_before = ap (λ o. count_by young (ends_at o)) has.found ∙ count_ends young 0 has.object.slots

    count_after : count_by young (targets (table_then w t) w.at) ≡ count_by (leads_to young) object_then.slots
    count_after = ap (λ o. count_by young (ends_at o)) found_then ∙ count_ends young 0 object_then.slots

    pub count_changes : count_by young (targets (table_then w t) w.at) + bit (leads_to young slot_before) ≡ count_by young (targets t w.at) + bit (leads_to young slot_after)
    count_changes =
        let step = sum_by-set (λ (s : Slot). cond (leads_to young s) 1 0) has.object.slots w.slot (slot_holding w.to slot_before) empty_slot has.within in
        let here = ap (λ (s : Slot). bit (leads_to young s)) (get_or-set_same has.object.slots w.slot (slot_holding w.to slot_before) empty_slot has.within) in
        omega (arith, step, here, count_before, count_after, bit_is (leads_to young slot_before), bit_is (leads_to young (slot_holding w.to slot_before)))

    -- a slot that holds a young object is counted
    pub count_some : leads_to young slot_before ≡ true → 0 < count_by young (targets t w.at)
    count_some holds =
        let step = sum_by-set (λ (s : Slot). cond (leads_to young s) 1 0) has.object.slots w.slot empty_slot empty_slot has.within in
        let here : bit (leads_to young slot_before) ≡ 1 = ap bit holds in
        omega (arith, step, count_before, bit_is (leads_to young slot_before), here)

    -- no count is greater than there are slots
    pub count_few : slot_count t ≤ MOST_SLOTS → count_by young (targets (table_then w t) w.at) ≤ MOST_SLOTS
    count_few few =
        let same = length-set has.object.slots w.slot (slot_holding w.to slot_before) in
        omega (arith, few, count_after, count_by-le-length (leads_to young) object_then.slots, same, few_slots t w.at has.object has.found)

-- ---- before a store in an old object

-- the slot of the object in a cell
slot_is : (p : PlacedTable) (cell slot : ℕ) (o : Object) → object_in p cell ≡ Some o → slot_in p cell slot ≡ get_or o.slots slot empty_slot
slot_is p cell slot o found = ap (λ q. get_or (option_map_or (λ (u : Object). u.slots) q []) slot empty_slot) found

fewer_pass : (q : ℕ → Bool) (xs : List ℕ) (x : ℕ) → IsTrue (has_id xs x) → q x ≡ false → length (filter q xs) < length xs
fewer_pass q [] x has fails = absurd (false≢true has)
fewer_pass q (y ∷ xs) x has fails = ⊎_elim
    (λ here. let e = filter-out q y xs (ap q (eqb-true y x here) ∙ fails) in omega (arith, ap (λ l. length l) e, length-filter_le q xs))
    (λ rest. go (q y) refl (fewer_pass q xs x rest fails))
    (or_cases _ _ has)
  where
    go : (b : Bool) → q y ≡ b → length (filter q xs) < length xs → length (filter q (y ∷ xs)) < length (y ∷ xs)
    go true e less = omega (arith, ap (λ l. length l) (filter-in q y xs e), less)
    go false e less = omega (arith, ap (λ l. length l) (filter-out q y xs e), less)

-- A store that goes to an old object of a nursery, which stands in this cell.
pub record StoresInOld (n : NurseryParts) (w : SlotStore) (cell : ℕ) : Type 0 where
  pub before : IsSoundNursery n
  pub held : id_in n.placed cell ≡ Some w.at
  pub low : w.at ≤ n.old_up_to
  pub has : HasSlot n.placed.table w

module _ {n : NurseryParts} {w : SlotStore} {cell : ℕ} (old : StoresInOld n w cell) where
  abbrev h : Generations
  h = generations_of n

  abbrev held_before : List ℕ
  held_before = targets n.placed.table w.at

  is_old_one : is_young h w.at ≡ false
  is_old_one = le-ltb n.old_up_to w.at old.low

  -- its count has a place
  pub within_counts : cell < length n.counts
  within_counts = omega (arith, held-within n.placed cell w.at old.held, old.before.nursery.each_count)

  pub count_is : get_or n.counts cell 0 ≡ count_by (is_young h) held_before
  count_is = old.before.nursery.counts cell ∙ ap (young_count h) old.held ∙ ap (λ b. cond b 0 (count_by (is_young h) held_before)) is_old_one

  pub marks_tell : (other x : ℕ) → id_in n.placed other ≡ Some x → get_or n.marks other false ≡ not (is_young h x)
  marks_tell other x there = old.before.nursery.marks other ∙ ap (λ o. option_map_or (is_old h) o false) there

  among_ids : IsTrue (has_id (ids n.placed.table) w.at)
  among_ids = has_id-ids n.placed.table w.at ∙ old.before.placed.live cell w.at old.held

  was_remembered : remembers h w.at ≡ nat_lt 0 (get_or n.counts cell 0)
  was_remembered =
      ap (λ b. not b && holds_young h w.at) is_old_one ∙ any_count (is_young h) held_before ∙ ap (nat_lt 0) (sym count_is)

  -- where it holds none there is room in the list
  pub room_for_it : get_or n.counts cell 0 ≡ 0 → length n.remembered < n.room
  room_for_it none =
      let list = ap (λ l. length l) (remembered_is h n.remembered old.before.nursery.remembered) in
      let less = fewer_pass (remembers h) (ids n.placed.table) w.at among_ids (was_remembered ∙ ap (nat_lt 0) none) in
      omega (arith, less, list, length-map n.placed.table.objects (λ o. o.id), old.before.nursery.room)

  -- the slot before the store, and after it
  pub slot_was : slot_in n.placed cell w.slot ≡ slot_before old.has
  slot_was =
      slot_is n.placed cell w.slot old.has.object (ap (option_and_then (object_at n.placed.table.objects)) old.held ∙ old.has.found)

  pub slot_now : (after : PlacedTable) → after.table ≡ table_then w n.placed.table → id_in after cell ≡ id_in n.placed cell → slot_in after cell w.slot ≡ slot_after old.has
  slot_now after table same =
      let found = ap (λ (u : Table). object_at u.objects w.at) table ∙ found_then old.has in
      slot_is after cell w.slot (object_then old.has) (ap (option_and_then (object_at after.table.objects)) (same ∙ old.held) ∙ found)

-- ---- after a store

-- The parts that a store changes.
pub record StoredParts : Type 0 where
  pub placed : PlacedTable
  pub counts : List ℕ
  pub remembered : List ℕ
  pub room : ℕ

abbrev pub parts_then : NurseryParts → StoredParts → NurseryParts
parts_then n s = record n { placed = s.placed; counts = s.counts; remembered = s.remembered; room = s.room }

-- The table is the one after the store, each object stands where it stood, and there is no less room.
pub record Stores (n : NurseryParts) (w : SlotStore) (s : StoredParts) : Type 0 where
  pub nursery : IsNursery n
  pub table : s.placed.table ≡ table_then w n.placed.table
  pub cells : s.placed.cells ≡ n.placed.cells
  pub room : n.room ≤ s.room

-- The count of the object is this one, and it is in the list where that isn't 0.
pub record Recounts (n : NurseryParts) (w : SlotStore) (s : StoredParts) (cell count : ℕ) : Type 0 where
  pub counted : count ≡ count_by (is_young (generations_of n)) (targets s.placed.table w.at)
  pub put : s.counts ≡ set n.counts cell count
  pub list : (ids : List ℕ) (was is : ℕ → Bool) → Rises ids → IsTrue (has_id ids w.at) → ((x : ℕ) → (x == w.at) ≡ false → was x ≡ is x) →
      was w.at ≡ nat_lt 0 (get_or n.counts cell 0) → is w.at ≡ nat_lt 0 count → n.remembered ≡ filter was ids → s.remembered ≡ filter is ids

module _ {n : NurseryParts} {w : SlotStore} {s : StoredParts} (stores : Stores n w s) where
  abbrev g : Generations
  g = generations_of n

  abbrev g' : Generations
  g' = generations_of (parts_then n s)

  same_in : (cell : ℕ) → id_in s.placed cell ≡ id_in n.placed cell
  same_in cell = ap (λ l. get_or l cell None) stores.cells

  ids_same : ids s.placed.table ≡ ids n.placed.table
  ids_same = ap ids stores.table ∙ ids-with_change n.placed.table w.at w.slot (slot_holding w.to)

  stacked_then : IsStacked s.placed n.old_up_to
  stacked_then =
      let was = stores.nursery.stacked in
      record {
        full = λ x young cell lower held below. subst IsSome (sym (same_in lower)) (was.full x young cell lower (sym (same_in cell) ∙ held) below);
        rising = λ cell other x later held there. was.rising cell other x later (sym (same_in cell) ∙ held) (sym (same_in other) ∙ there);
      }

  targets_same : (x : ℕ) → x ≢ w.at → targets s.placed.table x ≡ targets n.placed.table x
  targets_same x apart = ap (λ (u : Table). targets u x) stores.table ∙ other_targets w n.placed.table x apart

  remembers_same : (x : ℕ) → x ≢ w.at → remembers g x ≡ remembers g' x
  remembers_same x apart = ap (λ l. is_old g x && list_any (is_young g) l) (sym (targets_same x apart))

  -- the counts of the other cells
  other_counts : (cell : ℕ) (o : Option ℕ) → id_in n.placed cell ≡ o → o ≢ Some w.at → young_count g (id_in n.placed cell) ≡ young_count g' (id_in s.placed cell)
  other_counts cell None held apart = ap (young_count g) held ∙ sym (ap (young_count g') (same_in cell ∙ held))
  other_counts cell (Some x) held apart =
      ap (young_count g) held
      ∙ ap (λ l. cond (is_young g x) 0 (count_by (is_young g) l)) (sym (targets_same x (λ same. apart (ap Some same))))
      ∙ sym (ap (young_count g') (same_in cell ∙ held))

  stored : ((cell : ℕ) → get_or s.counts cell 0 ≡ young_count g' (id_in s.placed cell)) → length s.counts ≡ length n.counts → s.remembered ≡ remembered_set g' → IsNursery (parts_then n s)
  stored counts_then each_count remembered_then =
      let was = stores.nursery in
      record {
        greatest = was.greatest ∙ sym (ap (λ (u : Table). u.greatest) stores.table ∙ greatest-then w n.placed.table);
        old = was.old;
        strong = subst NoneWeak (sym stores.table) (strong-then w n.placed.table was.strong);
        stacked = stacked_then;
        each_mark = was.each_mark ∙ ap (λ l. length l) (sym stores.cells);
        marks = λ cell. was.marks cell ∙ ap (λ o. option_map_or (is_old g) o false) (sym (same_in cell));
        idle = was.idle;
        each_count = each_count ∙ was.each_count ∙ ap (λ l. length l) (sym stores.cells);
        counts = counts_then;
        remembered = remembered_then;
        room = omega (arith, was.room, stores.room, ap (λ (u : Table). length u.objects) stores.table, length-then w n.placed.table);
      }

  -- ---- where the object is young

  module _ (young : is_young g w.at ≡ true) (same_counts : s.counts ≡ n.counts) (same_list : s.remembered ≡ n.remembered) where
    young_counts : (cell : ℕ) → get_or s.counts cell 0 ≡ young_count g' (id_in s.placed cell)
    young_counts cell = ap (λ l. get_or l cell 0) same_counts ∙ stores.nursery.counts cell ∙ go (id_in n.placed cell) refl
      where
        none : (h : Generations) (x : ℕ) → is_young h x ≡ true → young_count h (Some x) ≡ 0
        none h x is = ap (λ b. cond b 0 (count_by (is_young h) (targets h.table x))) is

        pick : (x : ℕ) → id_in n.placed cell ≡ Some x → (x ≡ w.at) ⊎ (x ≢ w.at) → young_count g (id_in n.placed cell) ≡ young_count g' (id_in s.placed cell)
        pick x held (inr apart) = other_counts cell (Some x) held (λ e. let same : x ≡ w.at = cc in apart same)
        pick x held (inl same) =
            let its : is_young g x ≡ true = ap (is_young g) same ∙ young in
            ap (young_count g) held ∙ none g x its ∙ sym (ap (young_count g') (same_in cell ∙ held) ∙ none g' x its)

        go : (o : Option ℕ) → id_in n.placed cell ≡ o → young_count g (id_in n.placed cell) ≡ young_count g' (id_in s.placed cell)
        go None held = other_counts cell None held (λ e. let h = e in cc)
        go (Some x) held = pick x held (cases_eq x w.at)

    young_list : s.remembered ≡ remembered_set g'
    unfolding remembered_set
    young_list =
        same_list
        ∙ stores.nursery.remembered
        ∙ same_filter (remembers g) (remembers g') (ids n.placed.table) (λ x has. go x (cases_eq x w.at))
        ∙ ap (filter (remembers g')) (sym ids_same)
      where
        go : (x : ℕ) → (x ≡ w.at) ⊎ (x ≢ w.at) → remembers g x ≡ remembers g' x
        go x (inr apart) = remembers_same x apart
        go x (inl same) =
            let its : is_young g x ≡ true = ap (is_young g) same ∙ young in
            ap (λ b. not b && holds_young g x) its ∙ sym (ap (λ b. not b && holds_young g' x) its)

    pub stored_young : IsNursery (parts_then n s)
    stored_young = stored young_counts (ap (λ l. length l) same_counts) young_list

  -- ---- where the object is old

  module _ {cell count : ℕ} (old : StoresInOld n w cell) (recounts : Recounts n w s cell count) where
    old_counts : (other : ℕ) → get_or s.counts other 0 ≡ young_count g' (id_in s.placed other)
    old_counts other = ap (λ l. get_or l other 0) recounts.put ∙ ⊎_elim
        (λ (same : other ≡ cell).
        ap (λ k. get_or (set n.counts cell count) k 0) same
        ∙ get_or-set_same n.counts cell count 0 (within_counts old)
        ∙ recounts.counted
        ∙ sym (ap (young_count g') (ap (id_in s.placed) same ∙ same_in cell ∙ old.held) ∙ ap (λ b. cond b 0 (count_by (is_young g') (targets s.placed.table w.at))) (is_old_one old)))
        (λ apart.
        let other_one = other_counts other (id_in n.placed other) refl (λ there. apart (old.before.placed.once other cell w.at there old.held)) in
        get_or-set_other n.counts cell other count 0 apart ∙ stores.nursery.counts other ∙ other_one)
        (cases_eq other cell)

    remembered_now : remembers g' w.at ≡ nat_lt 0 count
    remembered_now =
        ap (λ b. not b && holds_young g' w.at) (is_old_one old) ∙ any_count (is_young g') (targets s.placed.table w.at) ∙ ap (nat_lt 0) (sym recounts.counted)

    old_list : s.remembered ≡ remembered_set g'
    unfolding remembered_set
    old_list =
        recounts.list (ids n.placed.table) (remembers g) (remembers g')
        old.before.sound.ids.rising
        (among_ids old)
        (λ x apart. remembers_same x (λ same. false≢true (sym apart ∙ eq-eqb x w.at same)))
        (was_remembered old)
        remembered_now
        (remembered_is g n.remembered stores.nursery.remembered)
        ∙ ap (filter (remembers g')) (sym ids_same)

    pub stored_old : IsNursery (parts_then n s)
    stored_old = stored old_counts (ap (λ l. length l) recounts.put ∙ length-set n.counts cell count) old_list
