-- What is cut off by force after a sweep.
use Rattle.std.proofs.Common.{◌≡◌, ℕ, ◌<◌, Bool, true, false, ◌&&◌, cond, List, [], ◌∷◌, length, get_or, Option, None, Some, sym, ap, refl, subst, ◌∙◌, arith}
use Rattle.std.specs.Prelude.{sum_by}
use Rattle.std.specs.Cmp.{both_ways}
use Rattle.std.specs.List.{count_by}
use Rattle.std.specs.Option.{option_map_or}
use Rattle.std.proofs.lemmas.Bool.{and_parts}
use Rattle.std.proofs.lemmas.List.{length-map}
use Rattle.std.proofs.lemmas.List.Sums.{sum_by-cons}
use Rattle.std.proofs.lemmas.List.FromFn.{length-range_with_len, get_or-map-range_with_len}
use Rattle.std.specs.List.{range_with_len}
use Rattle.graph_meaning.specs.Assertions.{traced_ids}
use Rattle.graph_meaning.specs.Collecting.{Rules, after_collection, after_sweep, cut_off, holders_of, ids_to_clear, violating_dead, with_only}
use Rattle.graph_meaning.specs.Heap.{Slot, Object, Table, Heap, is_live}
use Rattle.graph_meaning.specs.Reach.{has_id}
use Rattle.graph_meaning.specs.Roles.{RoleTable}
use Rattle.graph_meaning.proofs.Edges.{plain_leaves_swept}
use Rattle.graph_meaning.proofs.HeapLemmas.{is_live-with_only}
use Rattle.graph_meaning.proofs.Keeping.{has_id-traced_ids}
use Rattle.graph_meaning.proofs.Membership.{has_id-filter}
use Rattle.object_table.specs.Placed.{PlacedTable, IsPlaced, KeepsCells, kept_ids, id_in}
use Rattle.assert_registry.specs.Assertions.{Assertions, AreOfSeenTypes}
use Rattle.assert_registry.specs.Laws.{StandFor}
use Rattle.sweep.specs.Parts.{PartsOfHeap, AreTracedIds, SweepsHeap, assertions_on, regions_with}
use Rattle.object_table.proofs.ObjectsByCell.{held-within}
use Rattle.region_log.specs.Regions.{RegionTable}
use Rattle.heap_parts.specs.Parts.{AreDeadAndTraced, AreParts, AreUnasserted, FlagTraced, IsWellFormed, PlacedHeap, dead_below, heap_of, placed_heap, placed_in, named_limits}
use Rattle.heap_parts.proofs.Stepping.{well_formed-collection}
use Rattle.heap_parts.proofs.AfterSweep.{has_id-kept_ids, kept_ids-cell, are_traced, heap_left, seen_left, unasserted_left}

-- ---- the flags

-- an object is a violation of assert-dead where it is asserted dead and traced
violating : (h : Heap) (id : ℕ) → has_id (violating_dead h) id ≡ (has_id (traced_ids h) id && has_id h.dead id)
unfolding violating_dead
violating h id = has_id-filter (has_id (traced_ids h)) h.dead id

swapped : (a b : Bool) → (a && b) ≡ (b && a)
swapped true true = refl
swapped true false = refl
swapped false true = refl
swapped false false = refl

-- The roles and the trace tell of each object whether it is asserted dead and traced.
pub flags_tell : (h : PlacedHeap) → IsPlaced (placed_in h) → (r : RoleTable) → StandFor (placed_in h) r h.heap → (kept : List Bool) →
    FlagTraced h kept → (cells : ℕ) → cells ≡ length h.cells → AreDeadAndTraced h (dead_below r kept cells)
flags_tell h placed r roles kept traced cells many = record {
  each = length-map (range_with_len 0 cells) flag ∙ length-range_with_len 0 cells ∙ many;
  tell = λ cell id at.
      get_or-map-range_with_len flag 0 cells cell cell false (let w = within cell id at in omega arith) (omega arith)
      ∙ swapped (get_or r.dead cell false) (get_or kept cell false)
      ∙ ap (λ b. b && get_or r.dead cell false) (traced.tell cell id at ∙ sym (has_id-traced_ids h.heap id))
      ∙ ap (λ b. has_id (traced_ids h.heap) id && b) (roles.dead cell ∙ ap (holds_dead) at)
      ∙ sym (violating h.heap id);
}
  where
    flag : ℕ → Bool
    flag cell = get_or r.dead cell false && get_or kept cell false

    holds_dead : Option ℕ → Bool
    holds_dead o = option_map_or (has_id h.heap.dead) o false

    within : (cell id : ℕ) → id_in (placed_in h) cell ≡ Some id → cell < length h.cells
    within cell id at = held-within (placed_in h) cell id at

-- ---- after the sweep

module _ (before after : PlacedTable) (placed : IsPlaced before) (swept : IsPlaced after) (kept : List Bool)
    (table : after.table ≡ with_only (kept_ids before.cells kept) before.table) (keeps : KeepsCells before after (kept_ids before.cells kept)) where
  -- an object that stays stood in its cell before
  stood : (cell id : ℕ) → id_in after cell ≡ Some id → id_in before cell ≡ Some id
  stood cell id at =
      let alive : (has_id (kept_ids before.cells kept) id && is_live before.table id) ≡ true =
      sym (is_live-with_only (kept_ids before.cells kept) before.table id) ∙ ap (λ (t : Table). is_live t id) (sym table) ∙ swept.live cell id at in
      let parts = and_parts _ _ alive in
      let there = placed.somewhere id parts.1 in
      let same : cell ≡ there.0 = swept.once cell there.0 id at (keeps.others there.0 id there.1 parts.0) in
      subst (λ c. id_in before c ≡ Some id) (sym same) there.1

  -- the objects in the flagged cells are those that are asserted dead and were traced
  pub cleared_are : (h : Heap) → AreTracedIds h (kept_ids before.cells kept) → (flags : List Bool) →
      AreDeadAndTraced (let q : PlacedHeap = record { heap = h; cells = before.cells } in q) flags → (id : ℕ) →
      has_id (kept_ids after.cells flags) id ≡ has_id (violating_dead h) id
  cleared_are h traced flags are id = both_ways _ _ there back
    where
      there : has_id (kept_ids after.cells flags) id ≡ true → has_id (violating_dead h) id ≡ true
      there at =
          let cell = kept_ids-cell after.cells flags id at in
          sym (are.tell cell.0 id (stood cell.0 id cell.1)) ∙ cell.2

      back : has_id (violating_dead h) id ≡ true → has_id (kept_ids after.cells flags) id ≡ true
      back at =
          let stays = traced id ∙ (and_parts _ _ (sym (violating h id) ∙ at)).0 in
          let cell = kept_ids-cell before.cells kept id stays in
          has_id-kept_ids after.cells flags cell.0 id (keeps.others cell.0 id cell.1 stays) (are.tell cell.0 id cell.1 ∙ at)

-- ---- nothing is cut off

zero_sum : {X : Type 0} (f : X → ℕ) → ((x : X) → f x ≡ 0) → (xs : List X) → sum_by f xs ≡ 0
zero_sum f zero [] = refl
zero_sum f zero (x ∷ xs) = let e = sum_by-cons f x xs in let r = zero_sum f zero xs in let z = zero x in omega arith

holds_none : (o : Option ℕ) → option_map_or (has_id []) o false ≡ false
holds_none None = refl
holds_none (Some x) = refl

nothing_held : (t : Table) → holders_of (has_id []) t ≡ 0
nothing_held t =
    let slots =
    zero_sum (λ (o : Object). count_by (λ s. option_map_or (has_id []) s.held false) o.slots)
    (λ o. zero_sum (λ (s : Slot). cond (option_map_or (has_id []) s.held false) 1 0) (λ s. ap (λ b. cond b 1 0) (holds_none s.held)) o.slots)
    t.objects in
    let roots = zero_sum (λ (r : List ℕ × ℕ). cond (has_id [] r.1) 1 0) (λ r. refl) t.roots in
    omega arith

-- without force nothing is cleared
pub none_cleared : (h : Heap) (rules : Rules) → rules.force ≡ false → holders_of (has_id (ids_to_clear rules h)) (after_sweep h).table ≡ 0
none_cleared h rules force =
    ap (λ b. holders_of (has_id (cond b (violating_dead h) [])) (after_sweep h).table) force ∙ nothing_held (after_sweep h).table

-- by force the slots and roots are cleared that hold what is asserted dead and was traced
pub by_force_cleared : (h : Heap) (rules : Rules) → rules.force ≡ true → holders_of (has_id (ids_to_clear rules h)) (after_sweep h).table ≡ holders_of (has_id (violating_dead h)) (after_sweep h).table
by_force_cleared h rules force = ap (λ b. holders_of (has_id (cond b (violating_dead h) [])) (after_sweep h).table) force

-- ---- what a collection leaves

-- without force what is left is what the sweep leaves
pub left_without : (h left : Heap) → left ≡ after_sweep h → (rules : Rules) → rules.force ≡ false → left ≡ after_collection rules h
left_without h left is rules force =
    is ∙ sym (plain_leaves_swept rules.paths h) ∙ ap (λ f. after_collection (let rs : Rules = record { paths = rules.paths; force = f } in rs) h) (sym force)

-- by force the objects that are asserted dead and were traced are cut off
pub left_by_force : (h : Heap) (swept after : PartsOfHeap) → heap_of swept ≡ after_sweep h → (gone : ℕ → Bool) → gone ≡ has_id (violating_dead h) →
    after.placed.table ≡ cut_off gone swept.placed.table → after.assertions ≡ swept.assertions → after.regions ≡ swept.regions → (rules : Rules) →
    rules.force ≡ true → heap_of after ≡ after_collection rules h
unfolding after_collection
left_by_force h swept after left gone are table assertions regions rules force =
    heap_is
    ∙ ap (λ (f : ℕ → Bool). record (heap_of swept) { table = cut_off f swept.placed.table }) are
    ∙ ap (λ (l : Heap). record l { table = cut_off (has_id (violating_dead h)) l.table }) left
    ∙ ap (λ b. record (after_sweep h) { table = cut_off (has_id (cond b (violating_dead h) [])) (after_sweep h).table }) (sym force)
  where
    heap_is : heap_of after ≡ record (heap_of swept) { table = cut_off gone swept.placed.table }
    heap_is = λ i. record {
      table = table i;
      dead = (assertions i).dead;
      unshared = (assertions i).unshared;
      regions = (regions i).regions;
      limits = named_limits (table i).kinds (assertions i).limits;
      owners = (assertions i).owners;
    }

-- ---- the sweep by force

-- What a sweep by force leaves of the parts of a heap, and how many slots and roots it cleared.
pub record IsSweptByForce (h : Heap) (after : PartsOfHeap) (cleared : ℕ) : Type 0 where
  pub left : (rules : Rules) → rules.force ≡ true → heap_of after ≡ after_collection rules h
  pub parts : AreParts after
  pub count : cleared ≡ holders_of (has_id (violating_dead h)) (after_sweep h).table

module _ (s : PartsOfHeap) (are : AreParts s) (placed : IsPlaced s.placed) (kept : List Bool) (tell : FlagTraced (placed_heap s) kept) where
  abbrev h : Heap
  h = heap_of s

  abbrev ids : List ℕ
  ids = kept_ids s.placed.cells kept

  module _ (swept : PartsOfHeap) (still : IsPlaced swept.placed) (freed : ℕ) (sweeps : SweepsHeap h swept freed)
      (table : swept.placed.table ≡ with_only ids s.placed.table) (keeps : KeepsCells s.placed swept.placed ids)
      (assertions : swept.assertions ≡ assertions_on ids s.assertions) (regions : swept.regions ≡ regions_with ids s.regions) (flags : List Bool)
      (to_clear : AreDeadAndTraced (placed_heap s) flags) where
    left : heap_of swept ≡ after_sweep h
    left = heap_left s are placed kept tell swept freed sweeps table assertions

    seen : AreOfSeenTypes swept.assertions.limits swept.placed.table.kinds
    seen kind = seen_left s are placed kept tell swept freed sweeps table assertions kind

    abbrev gone : ℕ → Bool
    gone id = has_id (kept_ids swept.placed.cells flags) id

    gone_are : gone ≡ has_id (violating_dead h)
    gone_are = λ i id. cleared_are s.placed swept.placed placed still kept table keeps h (are_traced s are placed kept tell) flags to_clear id i

    abbrev by_force : Rules
    by_force = record { paths = 0; force = true }

    pub swept_by_force : (after : PartsOfHeap) (cleared : ℕ) → after.placed.table ≡ cut_off gone swept.placed.table →
        after.assertions ≡ swept.assertions → after.regions ≡ swept.regions → cleared ≡ holders_of gone swept.placed.table →
        IsSweptByForce h after cleared
    swept_by_force after cleared cut same_assertions same_regions count = record {
      left = all_left;
      parts = record {
        heap = subst IsWellFormed (sym (all_left by_force refl)) (well_formed-collection by_force h are.heap);
        seen =
            λ kind. subst (λ kinds. AreOfSeenTypes after.assertions.limits kinds) (sym (ap (λ (u : Table). u.kinds) cut))
            (subst (λ (a : Assertions). AreOfSeenTypes a.limits swept.placed.table.kinds) (sym same_assertions) seen) kind;
        unasserted =
            subst (λ (a : Assertions). AreUnasserted (record after { assertions = a })) (sym same_assertions)
            (subst (λ (r : RegionTable). AreUnasserted (record swept { regions = r })) (sym same_regions)
            (unasserted_left s are placed kept tell swept freed sweeps table assertions regions));
      };
      count = count ∙ ap (λ f. holders_of f swept.placed.table) gone_are ∙ ap (λ (l : Heap). holders_of (has_id (violating_dead h)) l.table) left;
    }
      where
        all_left : (rules : Rules) → rules.force ≡ true → heap_of after ≡ after_collection rules h
        all_left rules force = left_by_force h swept after left gone gone_are cut same_assertions same_regions rules force
