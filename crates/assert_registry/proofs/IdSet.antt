-- The set of a list goes by its members alone.
use Rattle.std.proofs.Common.{◌≡◌, ℕ, ◌<◌, Bool, true, false, ◌||◌, ◌&&◌, List, [], ◌∷◌, Option, None, Some, fold, filter, sym, ap, refl, subst, ◌∙◌, eqb, eqb-true}
use Rattle.std.specs.Prelude.{◌==◌, IsTrue}
use Rattle.std.specs.BTreeSet.{insert_key}
use Rattle.std.specs.Cmp.{both_ways}
use Rattle.std.specs.List.{All, dedup, slice_get}
use Rattle.std.specs.List.Sorted.{IsSorted, IsPermutation, IsStrictlySortedBy}
use Rattle.std.specs.Map.{values_of}
use Rattle.std.specs.Option.{option_map_or}
use Rattle.std.specs.Ordering.{nat_cmp}
use Rattle.std.proofs.lemmas.Cmp.{nat_cmp_total}
use Rattle.std.proofs.lemmas.List.Elements.{All-contains, All-weaker}
use Rattle.std.proofs.lemmas.List.Kept.{AllPairs-filter, Contains-dedup_nat, Contains-from_dedup, IsStrictlySortedBy-filter}
use Rattle.std.proofs.lemmas.List.Sorted.{list_any-IsPermutation}
use Rattle.std.proofs.lemmas.Option.{get_or_from_slice_get, slice_get_within}
use Rattle.std.proofs.lemmas.Map.Keys.{IsStrictlyIncreasing-dedup, sorted_from_strictly_increasing}
use Rattle.graph_meaning.specs.Heap.{Table, ids, is_live}
use Rattle.graph_meaning.specs.Laws.{IdsRise}
use Rattle.graph_meaning.specs.Reach.{has_id}
use Rattle.graph_meaning.proofs.HeapLemmas.{has_id-ids}
use Rattle.graph_meaning.proofs.Membership.{All-has_id, has_id-Contains, has_id-filter, has_id-insert_key}
use Rattle.graph_meaning.proofs.Orders.{sorted-insert_key}
use Rattle.object_table.specs.Placed.{PlacedTable, id_in}
use Rattle.assert_registry.specs.ByCell.{holds_one_of, live_owners}
use Rattle.assert_registry.specs.IdSet.{set_of}
use Rattle.assert_registry.proofs.Rising.{Rise-sorted, same_rising}

-- ---- ids put into a set one after another

has_id-fold : (set ids : List ℕ) (y : ℕ) → has_id (fold (insert_key nat_cmp) set ids) y ≡ (has_id set y || has_id ids y)
has_id-fold set [] y = sym (or_none (has_id set y))
  where
    or_none : (b : Bool) → (b || false) ≡ b
    or_none true = refl
    or_none false = refl
has_id-fold set (x ∷ ids) y =
    has_id-fold (insert_key nat_cmp set x) ids y ∙ ap (λ b. b || has_id ids y) (has_id-insert_key set x y) ∙ moved (x == y) (has_id set y) (has_id ids y)
  where
    moved : (a b c : Bool) → ((a || b) || c) ≡ (b || (a || c))
    moved true true c = refl
    moved true false c = refl
    moved false b c = refl

sorted-fold : (set ids : List ℕ) → IsStrictlySortedBy nat_cmp set → IsStrictlySortedBy nat_cmp (fold (insert_key nat_cmp) set ids)
sorted-fold set [] sorted = sorted
sorted-fold set (x ∷ ids) sorted =
    sorted-fold (insert_key nat_cmp set x) ids (sorted-insert_key nat_cmp nat_cmp_total set x sorted)

-- ---- the set of a list

-- it has the members of the list
pub has_id-set_of : (ids : List ℕ) (y : ℕ) → has_id (set_of ids) y ≡ has_id ids y
has_id-set_of = has_id-fold []

pub sorted-set_of : (ids : List ℕ) → IsStrictlySortedBy nat_cmp (set_of ids)
unfolding IsStrictlySortedBy
sorted-set_of ids = sorted-fold [] ids tt

-- what holds of each member holds of each of the list
pub All-set_of : (P : ℕ → Type 0) (ids : List ℕ) → All P (set_of ids) → All P ids
All-set_of P ids all =
    All-weaker (λ x. IsTrue (has_id ids x)) P
    (λ x at. All-contains P (set_of ids) x all ((has_id-Contains (set_of ids) x).0 (has_id-set_of ids x ∙ at)))
    ids (All-has_id ids)

pub holds_one_of-set_of : (p : PlacedTable) (ids : List ℕ) (cell : ℕ) → holds_one_of p (set_of ids) cell ≡ holds_one_of p ids cell
holds_one_of-set_of p ids cell = go (id_in p cell)
  where
    go : (o : Option ℕ) → option_map_or (has_id (set_of ids)) o false ≡ option_map_or (has_id ids) o false
    go None = refl
    go (Some x) = has_id-set_of ids x

-- A list with the same members that is strictly sorted is the set.
pub is_set_of : (xs ids : List ℕ) → IsStrictlySortedBy nat_cmp xs → ((y : ℕ) → has_id xs y ≡ has_id ids y) → xs ≡ set_of ids
is_set_of xs ids sorted same =
    same_rising xs (set_of ids) (Rise-sorted xs sorted) (Rise-sorted (set_of ids) (sorted-set_of ids)) (λ y. same y ∙ sym (has_id-set_of ids y))

-- of the ids in order
pub set_of-sorted : (ids sorted : List ℕ) → sorted ≡ set_of ids → set_of sorted ≡ set_of ids
set_of-sorted ids sorted is = ap set_of is ∙ sym (is_set_of (set_of ids) (set_of ids) (sorted-set_of ids) (λ y. refl))

-- of fewer ids
pub set_of-filter : (p : ℕ → Bool) (ids : List ℕ) → set_of (filter p ids) ≡ filter p (set_of ids)
set_of-filter p ids =
    sym
    (is_set_of (filter p (set_of ids)) (filter p ids) (IsStrictlySortedBy-filter nat_cmp p (set_of ids) (sorted-set_of ids))
    (λ y. has_id-filter p (set_of ids) y ∙ ap (λ b. p y && b) (has_id-set_of ids y) ∙ sym (has_id-filter p ids y)))

-- an element of the list
pub has_id-slice_get : (ids : List ℕ) (i id : ℕ) → slice_get ids i ≡ Some id → has_id ids id ≡ true
has_id-slice_get ids i id at = (has_id-Contains ids id).1 (i, slice_get_within ids i id at, get_or_from_slice_get ids i id id at)

-- a member put into it again
pub insert_key-again : (ids : List ℕ) (id : ℕ) → has_id ids id ≡ true → insert_key nat_cmp (set_of ids) id ≡ set_of ids
insert_key-again ids id at =
    is_set_of (insert_key nat_cmp (set_of ids) id) ids (sorted-insert_key nat_cmp nat_cmp_total (set_of ids) id (sorted-set_of ids))
    (λ y. has_id-insert_key (set_of ids) id y ∙ ap (λ b. (id == y) || b) (has_id-set_of ids y) ∙ go y (id == y) (λ here. ap (has_id ids) (sym (eqb-true id y here)) ∙ at))
  where
    go : (y : ℕ) (b : Bool) → (b ≡ true → has_id ids y ≡ true) → (b || has_id ids y) ≡ has_id ids y
    go y true here = sym (here refl)
    go y false here = refl

-- the ids in order, each once
pub sorted_once : (ids sorted : List ℕ) → IsPermutation ids sorted → IsSorted nat_cmp sorted → dedup eqb sorted ≡ set_of ids
sorted_once ids sorted moved in_order =
    is_set_of (dedup eqb sorted) ids (sorted_from_strictly_increasing (dedup eqb sorted) (IsStrictlyIncreasing-dedup sorted in_order))
    (λ y. once y ∙ sym (list_any-IsPermutation (λ x. x == y) ids sorted moved))
  where
    once : (y : ℕ) → has_id (dedup eqb sorted) y ≡ has_id sorted y
    once y =
        both_ways (has_id (dedup eqb sorted) y) (has_id sorted y)
        (λ at. (has_id-Contains sorted y).1 (Contains-from_dedup eqb sorted y ((has_id-Contains (dedup eqb sorted) y).0 at)))
        (λ at. (has_id-Contains (dedup eqb sorted) y).1 (Contains-dedup_nat sorted y ((has_id-Contains sorted y).0 at)))

-- of the owners
pub live_owners-set_of : (t : Table) (owners : List (ℕ × ℕ)) → IdsRise t → filter (is_live t) (set_of (values_of owners)) ≡ live_owners t owners
live_owners-set_of t owners rise =
    same_rising (filter (is_live t) (set_of (values_of owners))) (live_owners t owners)
    (Rise-sorted _ (IsStrictlySortedBy-filter nat_cmp (is_live t) (set_of (values_of owners)) (sorted-set_of (values_of owners))))
    (AllPairs-filter (λ x y. x < y) (has_id (values_of owners)) (ids t) rise.rising)
    (λ id. has_id-filter (is_live t) (set_of (values_of owners)) id
    ∙ ap (λ b. is_live t id && b) (has_id-set_of (values_of owners) id)
    ∙ and-swapped (is_live t id) (has_id (values_of owners) id)
    ∙ ap (λ b. has_id (values_of owners) id && b) (sym (has_id-ids t id))
    ∙ sym (has_id-filter (has_id (values_of owners)) (ids t) id))
  where
    and-swapped : (a b : Bool) → (a && b) ≡ (b && a)
    and-swapped true true = refl
    and-swapped true false = refl
    and-swapped false true = refl
    and-swapped false false = refl

pub sorted-live_owners : (t : Table) (owners : List (ℕ × ℕ)) → IdsRise t → IsStrictlySortedBy nat_cmp (live_owners t owners)
sorted-live_owners t owners rise =
    subst (IsStrictlySortedBy nat_cmp) (live_owners-set_of t owners rise)
    (IsStrictlySortedBy-filter nat_cmp (is_live t) (set_of (values_of owners)) (sorted-set_of (values_of owners)))
