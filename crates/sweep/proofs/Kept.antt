-- What is left of the parts of a heap where some objects stay.
use Rattle.std.proofs.Common.{◌≡◌, ℕ, zero, suc, ◌≤◌, ◌-◌, Bool, true, false, ◌&&◌, not, List, [], ◌∷◌, length, map, filter, get_or, ⊎_elim, refl, sym, ap, ◌∙◌, arith, eqb-true, Option, None, Some}
use Rattle.std.proofs.lemmas.Bool.{false≢true, or_cases}
use Rattle.std.proofs.lemmas.List.{length-map}
use Rattle.graph_meaning.specs.Heap.{Object, Table, Heap, ids, is_live}
use Rattle.graph_meaning.specs.Reach.{has_id}
use Rattle.graph_meaning.specs.Assertions.{is_traced, traced_ids}
use Rattle.graph_meaning.specs.Collecting.{object_without, with_only, after_sweep}
use Rattle.graph_meaning.proofs.HeapLemmas.{is_live-with_only}
use Rattle.graph_meaning.proofs.Membership.{length-filter_le, filter_itself}
use Rattle.graph_meaning.proofs.Rising.{ids-with_only}
use Rattle.object_table.specs.Placed.{PlacedTable, kept_ids, IsPlaced}
use Rattle.assert_registry.specs.Assertions.{Assertions, live_part}
use Rattle.region_log.specs.Regions.{RegionTable, table_with_ids}
use Rattle.sweep.specs.Parts.{PartsOfHeap, assertions_on, regions_with, ArePartsOf, AreTracedIds, SweepsHeap}

-- what is so of each object in a cell is so of those that are kept
kept_among : (P : ℕ → Type 0) (cells : List (Option ℕ)) (kept : List Bool) → ((cell id : ℕ) → get_or cells cell None ≡ Some id → P id) → (id : ℕ) → has_id (kept_ids cells kept) id ≡ true → P id
kept_among P [] kept each id has = absurd (false≢true has)
kept_among P (c ∷ cells) [] each id has = absurd (false≢true has)
kept_among P (c ∷ cells) (false ∷ kept) each id has = kept_among P cells kept (λ cell. each (suc cell)) id has
kept_among P (None ∷ cells) (true ∷ kept) each id has = kept_among P cells kept (λ cell. each (suc cell)) id has
kept_among P (Some x ∷ cells) (true ∷ kept) each id has =
    ⊎_elim
    (λ here. each zero id (ap Some (eqb-true x id here)))
    (λ rest. kept_among P cells kept (λ cell. each (suc cell)) id rest)
    (or_cases _ _ has)

-- live are then those that are kept
pub live_is_kept : (p : PlacedTable) (kept : List Bool) → IsPlaced p → (id : ℕ) → is_live (with_only (kept_ids p.cells kept) p.table) id ≡ has_id (kept_ids p.cells kept) id
live_is_kept p kept placed id =
    is_live-with_only (kept_ids p.cells kept) p.table id ∙ go (has_id (kept_ids p.cells kept) id) refl
  where
    go : (b : Bool) → has_id (kept_ids p.cells kept) id ≡ b → (b && is_live p.table id) ≡ b
    go true is = kept_among (λ x. is_live p.table x ≡ true) p.cells kept placed.live id is
    go false is = refl

module _ (t : Table) (kept : List ℕ) (live : (id : ℕ) → is_live t id ≡ has_id kept id) where
  same_test : is_live t ≡ has_id kept
  same_test = λ i id. live id i

  -- what is asserted of live objects is what is asserted of kept ones
  pub assertions-kept : (a : Assertions) → live_part t a ≡ assertions_on kept a
  assertions-kept a = λ i. record a {
    dead = filter (same_test i) a.dead;
    unshared = filter (same_test i) a.unshared;
    owners = filter (λ (o : ℕ × ℕ). same_test i o.0) a.owners;
  }

  pub regions-kept : (r : RegionTable) → table_with_ids (is_live t) r ≡ regions_with kept r
  regions-kept r = λ i. table_with_ids (same_test i) r

-- no more objects stay than there were
pub length-with_only : (kept : List ℕ) (t : Table) → length (with_only kept t).objects ≤ length t.objects
unfolding with_only
length-with_only kept t =
    let fewer = length-filter_le (λ (o : Object). has_id kept o.id) t.objects in
    let same = length-map (filter (λ (o : Object). has_id kept o.id) t.objects) (object_without (λ id. not (has_id kept id))) in
    omega arith

-- ---- the sweep of a heap

module _ (h : Heap) (kept : List ℕ) (traced : AreTracedIds h kept) where
  same_ids : has_id kept ≡ has_id (traced_ids h)
  same_ids = λ i id. traced id i

  same_table : (t : Table) → with_only kept t ≡ with_only (traced_ids h) t
  unfolding with_only
  same_table t =
      λ i. record t { objects = map (object_without (λ id. not (same_ids i id))) (filter (λ (o : Object). same_ids i o.id) t.objects) }

  -- of the objects the traced ones stay
  traced_themselves : filter (has_id (traced_ids h)) (ids h.table) ≡ traced_ids h
  unfolding traced_ids
  traced_themselves = filter_itself (is_traced h) (ids h.table)

  traced_count : length (with_only (traced_ids h) h.table).objects ≡ length (traced_ids h)
  traced_count =
      sym (length-map (with_only (traced_ids h) h.table).objects (λ (o : Object). o.id))
      ∙ ap length (ids-with_only (traced_ids h) h.table ∙ traced_themselves)

  pub sweeps : (before after : PartsOfHeap) (freed : ℕ) → ArePartsOf h before → after.placed.table ≡ with_only kept before.placed.table →
      after.assertions ≡ assertions_on kept before.assertions → after.regions ≡ regions_with kept before.regions →
      freed ≡ length before.placed.table.objects - length after.placed.table.objects → SweepsHeap h after freed
  unfolding after_sweep
  sweeps before after freed parts table assertions regions count =
      let left : with_only (traced_ids h) h.table ≡ after.placed.table = sym (same_table h.table) ∙ (ap (with_only kept) parts.table ∙ sym table) in
      record {
        left = record {
          table = left;
          dead = (λ i. filter (sym same_ids i) (parts.dead i)) ∙ sym (ap (λ (a : Assertions). a.dead) assertions);
          unshared = (λ i. filter (sym same_ids i) (parts.unshared i)) ∙ sym (ap (λ (a : Assertions). a.unshared) assertions);
          regions = (λ i. map (map (filter (sym same_ids i))) (parts.regions i)) ∙ sym (ap (λ (r : RegionTable). r.regions) regions);
          owners = (λ i. filter (λ (o : ℕ × ℕ). sym same_ids i o.0) (parts.owners i)) ∙ sym (ap (λ (a : Assertions). a.owners) assertions);
        };
        count =
            count ∙ (λ i. length (sym parts.table i).objects - length (sym left i).objects) ∙ ap (λ n. length h.table.objects - n) traced_count;
      }
