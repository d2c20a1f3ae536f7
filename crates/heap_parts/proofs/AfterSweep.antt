-- What a sweep leaves of the parts of a heap, where the cells that are kept are those of its traced objects.
use Rattle.std.proofs.Common.{◌≡◌, ℕ, zero, suc, ◌+◌, Bool, true, false, List, [], ◌∷◌, map, get_or, Option, None, Some, IsTrue, ⊎_elim, sym, ap, refl, subst, ◌∙◌, eq-eqb, eqb-true, ◌==◌}
use Rattle.std.specs.List.{All, filter_map, cons_option, enumerate_from}
use Rattle.std.specs.Option.{option_map, option_map_or}
use Rattle.std.proofs.lemmas.Bool.{false≢true, or_left, or_right, or_cases}
use Rattle.std.proofs.lemmas.List.{length-map, get_or-map}
use Rattle.std.proofs.lemmas.List.Elements.{All-head, All-tail, Contains-get_or}
use Rattle.graph_meaning.specs.Assertions.{root_ids, is_traced}
use Rattle.graph_meaning.specs.Collecting.{Rules, with_only, after_sweep}
use Rattle.graph_meaning.specs.Heap.{Slot, Object, Table, Heap, object_at, is_live, edge_of, numbered_edge, targets}
use Rattle.graph_meaning.specs.Laws.{HoldsLive}
use Rattle.graph_meaning.specs.Reach.{has_id}
use Rattle.graph_meaning.proofs.Distances.{find_All}
use Rattle.graph_meaning.proofs.Edges.{edge-live, plain_leaves_swept}
use Rattle.graph_meaning.proofs.HeapLemmas.{has_id-ids}
use Rattle.graph_meaning.proofs.Keeping.{has_id-traced_ids}
use Rattle.graph_meaning.proofs.Membership.{has_id-Contains}
use Rattle.graph_meaning.proofs.Tracing.{traced_from_root, traced_along, traced_node}
use Rattle.object_table.specs.Placed.{IsPlaced, LeadsToKept, kept_ids}
use Rattle.assert_registry.specs.Assertions.{Assertions, AreOfSeenTypes}
use Rattle.sweep.specs.Parts.{PartsOfHeap, ArePartsOf, AreTracedIds, SweepsHeap, assertions_on, regions_with}
use Rattle.heap_parts.specs.Parts.{AreParts, AreUnasserted, FlagTraced, IsWellFormed, heap_of, named_limits, placed_heap}
use Rattle.region_log.specs.Regions.{RegionTable}
use Rattle.heap_parts.proofs.Stepping.{well_formed-collection}
use Rattle.heap_parts.proofs.Unasserted.{agree-kept}

-- ---- what edges lead to is live

slots-live : (t : Table) (n : ℕ) (slots : List Slot) (y : ℕ) → All (HoldsLive t) slots → has_id (map (λ e. e.1) (filter_map numbered_edge (enumerate_from n slots))) y ≡ true → is_live t y ≡ true
slots-live t n [] y live at = absurd (false≢true at)
slots-live t n (s ∷ slots) y live at =
    go (edge_of s) refl (slots-live t (n + 1) slots y (All-tail (HoldsLive t) s slots live)) at
  where
    rest : List (ℕ × ℕ)
    rest = filter_map numbered_edge (enumerate_from (n + 1) slots)

    go : (o : Option ℕ) → edge_of s ≡ o → (has_id (map (λ e. e.1) rest) y ≡ true → is_live t y ≡ true) →
        has_id (map (λ e. e.1) (cons_option (option_map (λ z. (n, z)) o) rest)) y ≡ true → is_live t y ≡ true
    go None edge later at = later at
    go (Some z) edge later at =
        ⊎_elim
        (λ here. edge-live t s y (All-head (HoldsLive t) s slots live) (edge ∙ ap Some (eqb-true z y here)))
        (λ rest. later rest)
        (or_cases _ _ at)

target-live : (t : Table) (x y : ℕ) → All (λ o. All (HoldsLive t) o.slots) t.objects → has_id (targets t x) y ≡ true → is_live t y ≡ true
target-live t x y live at = go (object_at t.objects x) refl at
  where
    go : (o : Option Object) → object_at t.objects x ≡ o → has_id (map (λ e. e.1) (option_map_or (λ u. filter_map numbered_edge (enumerate_from 0 u.slots)) o [])) y ≡ true → is_live t y ≡ true
    go None is at = absurd (false≢true at)
    go (Some o) is at =
        slots-live t 0 o.slots y (find_All (λ u. u.id == x) (λ u. All (HoldsLive t) u.slots) t.objects o live is) at

-- ---- which objects are in kept cells

-- what a cell holds is kept where the cell is
pub has_id-kept_ids : (cells : List (Option ℕ)) (kept : List Bool) (cell id : ℕ) → get_or cells cell None ≡ Some id → get_or kept cell false ≡ true → has_id (kept_ids cells kept) id ≡ true
has_id-kept_ids [] kept cell id held is = cc
has_id-kept_ids (c ∷ cells) [] cell id held is = absurd (false≢true is)
has_id-kept_ids (None ∷ cells) (k ∷ kept) zero id held is = cc
has_id-kept_ids (Some x ∷ cells) (false ∷ kept) zero id held is = absurd (false≢true is)
has_id-kept_ids (Some x ∷ cells) (true ∷ kept) zero id held is = or_left _ _ (eq-eqb x id (cc))
has_id-kept_ids (c ∷ cells) (false ∷ kept) (suc cell) id held is = has_id-kept_ids cells kept cell id held is
has_id-kept_ids (None ∷ cells) (true ∷ kept) (suc cell) id held is = has_id-kept_ids cells kept cell id held is
has_id-kept_ids (Some x ∷ cells) (true ∷ kept) (suc cell) id held is =
    or_right _ _ (has_id-kept_ids cells kept cell id held is)

-- an object that is kept stands in a cell that is kept
pub kept_ids-cell : (cells : List (Option ℕ)) (kept : List Bool) (id : ℕ) → has_id (kept_ids cells kept) id ≡ true → (cell : ℕ) × (get_or cells cell None ≡ Some id) × (get_or kept cell false ≡ true)
kept_ids-cell [] kept id at = absurd (false≢true at)
kept_ids-cell (c ∷ cells) [] id at = absurd (false≢true at)
kept_ids-cell (c ∷ cells) (false ∷ kept) id at = let later = kept_ids-cell cells kept id at in (suc later.0, later.1, later.2)
kept_ids-cell (None ∷ cells) (true ∷ kept) id at =
    let later = kept_ids-cell cells kept id at in (suc later.0, later.1, later.2)
kept_ids-cell (Some x ∷ cells) (true ∷ kept) id at =
    ⊎_elim
    (λ here. (zero, ap Some (eqb-true x id here), refl))
    (λ rest. let later = kept_ids-cell cells kept id rest in (suc later.0, later.1, later.2))
    (or_cases _ _ at)

-- ---- the sweep

kinds-with_only : (kept : List ℕ) (t : Table) → (with_only kept t).kinds ≡ t.kinds
unfolding with_only
kinds-with_only kept t = refl

module _ (s : PartsOfHeap) (are : AreParts s) (placed : IsPlaced s.placed) (kept : List Bool) (tell : FlagTraced (placed_heap s) kept) where
  abbrev h : Heap
  h = heap_of s

  abbrev stay : List ℕ
  stay = kept_ids s.placed.cells kept

  -- an object is kept where it is traced
  kept_traced : (id : ℕ) → has_id stay id ≡ is_traced h id
  kept_traced id = go (has_id stay id) refl (is_traced h id) refl
    where
      there : has_id stay id ≡ true → is_traced h id ≡ true
      there at = let at_cell = kept_ids-cell s.placed.cells kept id at in sym (tell.tell at_cell.0 id at_cell.1) ∙ at_cell.2

      back : is_traced h id ≡ true → has_id stay id ≡ true
      back at =
          let at_cell = placed.somewhere id (sym (has_id-ids s.placed.table id) ∙ traced_node h id at) in
          has_id-kept_ids s.placed.cells kept at_cell.0 id at_cell.1 (tell.tell at_cell.0 id at_cell.1 ∙ at)

      go : (b : Bool) → has_id stay id ≡ b → (c : Bool) → is_traced h id ≡ c → has_id stay id ≡ is_traced h id
      go true at c is = at ∙ sym (there at)
      go false out true at = absurd (false≢true (sym out ∙ back at))
      go false out false is = out ∙ sym is

  pub are_traced : AreTracedIds h stay
  are_traced id = kept_traced id ∙ sym (has_id-traced_ids h id)

  -- what is traced leads to what is traced
  pub traced_closed : LeadsToKept s.placed.table stay
  traced_closed = record {
    by_roots = λ k d within.
        let id = (get_or s.placed.table.roots k d).1 in
        let same : get_or (root_ids s.placed.table) k 0 ≡ id = get_or-map (λ (r : List ℕ × ℕ). r.1) s.placed.table.roots k d 0 within in
        let alive : IsTrue (is_live s.placed.table id) = subst (λ x. IsTrue (is_live s.placed.table x)) same (are.heap.refers.roots k 0 (rw length-map within)) in
        let named : IsTrue (has_id (root_ids s.placed.table) id) =
        subst (λ x. IsTrue (has_id (root_ids s.placed.table) x)) same ((has_id-Contains (root_ids s.placed.table) _).1 (Contains-get_or (root_ids s.placed.table) k 0 (rw length-map within))) in
        kept_traced id ∙ traced_from_root h id named (has_id-ids s.placed.table id ∙ alive);
    by_edges = λ x y at edge.
        kept_traced y ∙ traced_along h x y (sym (kept_traced x) ∙ at) edge (has_id-ids s.placed.table y ∙ target-live s.placed.table x y are.heap.refers.slots edge);
  }

  pub parts_of_heap : ArePartsOf h s
  parts_of_heap = record { table = refl; dead = refl; unshared = refl; regions = refl; owners = refl }

  module _ (after : PartsOfHeap) (freed : ℕ) (sweeps : SweepsHeap h after freed) (table : after.placed.table ≡ with_only stay s.placed.table)
      (assertions : after.assertions ≡ assertions_on stay s.assertions) where
    same_kinds : after.placed.table.kinds ≡ s.placed.table.kinds
    same_kinds = ap (λ (t : Table). t.kinds) table ∙ kinds-with_only stay s.placed.table

    same_limits : after.assertions.limits ≡ s.assertions.limits
    same_limits = ap (λ (a : Assertions). a.limits) assertions

    pub heap_left : heap_of after ≡ after_sweep h
    unfolding after_sweep
    heap_left = λ i. record {
      table = sym sweeps.left.table i;
      dead = sym sweeps.left.dead i;
      unshared = sym sweeps.left.unshared i;
      regions = sym sweeps.left.regions i;
      limits = named_limits (same_kinds i) (same_limits i);
      owners = sym sweeps.left.owners i;
    }

    -- each type with a limit was seen
    pub seen_left : AreOfSeenTypes after.assertions.limits after.placed.table.kinds
    seen_left kind =
        subst (λ kinds. AreOfSeenTypes after.assertions.limits kinds) (sym same_kinds) (subst (λ limits. AreOfSeenTypes limits s.placed.table.kinds) (sym same_limits) are.seen) kind

    -- what is left in the regions and not asserted dead is unasserted
    pub unasserted_left : after.regions ≡ regions_with stay s.regions → AreUnasserted after
    unasserted_left regions =
        subst (λ (a : Assertions). AreUnasserted (record after { assertions = a })) (sym assertions)
        (subst (λ (r : RegionTable). AreUnasserted (record after { assertions = assertions_on stay s.assertions; regions = r })) (sym regions)
        (agree-kept (has_id stay) s.assertions.dead s.regions.regions s.regions.unasserted are.unasserted))

    pub parts_left : after.regions ≡ regions_with stay s.regions → AreParts after
    parts_left regions = record {
      heap = subst IsWellFormed (plain_leaves_swept 0 h ∙ sym heap_left) (well_formed-collection (let rules : Rules = record { paths = 0; force = false } in rules) h are.heap);
      seen = λ kind. seen_left kind;
      unasserted = unasserted_left regions;
    }
