-- The list of verdicts with those on ownees.
use Rattle.std.proofs.Common.{◌≡◌, ℕ, ◌≤◌, ◌<◌, Bool, true, false, ◌&&◌, List, length, map, Some, IsTrue, sym, ap, refl, subst, ◌∙◌, arith}
use Rattle.std.specs.Map.{keys_of}
use Rattle.std.specs.List.{filter}
use Rattle.std.proofs.lemmas.List.{length-map}
use Rattle.std.proofs.lemmas.List.Elements.{All-contains}
use Rattle.std.proofs.lemmas.List.Kept.{AllPairs-filter}
use Rattle.graph_meaning.specs.declared.collection.Verdict.{Verdict}
use Rattle.graph_meaning.specs.declared.collection.Verdict.TheVariants.{OwnedBy}
use Rattle.graph_meaning.specs.declared.paths.Shown.{Shown}
use Rattle.graph_meaning.specs.Collecting.{first_with_paths, all_verdicts, is_gone, violating_ownees, ownedby_verdict}
use Rattle.graph_meaning.specs.Heap.{Heap, Table, ids, is_live, kind_at}
use Rattle.graph_meaning.specs.Laws.{IdsRise}
use Rattle.graph_meaning.specs.Paths.{shown_path, unowned_way}
use Rattle.graph_meaning.specs.Reach.{has_id}
use Rattle.graph_meaning.specs.Roles.{RoleTable}
use Rattle.graph_meaning.proofs.HeapLemmas.{has_id-ids}
use Rattle.graph_meaning.proofs.Membership.{has_id-filter, has_id-Contains, length-filter_le}
use Rattle.object_table.specs.Placed.{PlacedTable, IsSound, id_in}
use Rattle.assert_registry.specs.Laws.{StandFor}
use Rattle.assert_registry.proofs.Rising.{Rise-sorted, same_rising}
use Rattle.verdict_list.specs.Ownership.{OwnershipTable, AreViolating}
use Rattle.verdict_list.specs.Listed.{GoesOn, first_verdicts, path_if, verdict_if}

-- the verdict on an ownee, put together from its parts
pub ownedby-is : (b : Bool) (h : Heap) (o : ℕ × ℕ) (id : ℕ) (kind : List ℕ) (owner : ℕ) (gone : Bool) (path : Shown) → id ≡ o.0 →
    kind ≡ kind_at h.table o.0 → owner ≡ o.1 → gone ≡ is_gone h o.1 → path ≡ path_if b (shown_path (unowned_way h o.0)) →
    OwnedBy id kind owner gone path ≡ verdict_if b (ownedby_verdict h o)
ownedby-is true h o id kind owner gone path e1 e2 e3 e4 e5 = rw (e1, e2, e3, e4, e5) refl
ownedby-is false h o id kind owner gone path e1 e2 e3 e4 e5 = rw (e1, e2, e3, e4, e5) refl

-- ---- ownees

-- there are no more violating ownees than objects
pub ownees-few : (p : PlacedTable) (r : RoleTable) (h : Heap) (c : OwnershipTable) → IsSound p.table → StandFor p r h → AreViolating p h c → length c.ownees ≤ length p.table.objects
unfolding violating_ownees
ownees-few p r h c sound stand violating =
    let many : length c.ownees ≡ length (violating_ownees h) = sym (length-map c.ownees (id_in p)) ∙ ap length violating.ownees ∙ length-map (violating_ownees h) (λ o. Some o.0) in
    let listed : length (violating_ownees h) ≤ length h.owners = length-filter_le _ h.owners in
    let rise : IdsRise h.table = subst IdsRise (sym stand.table) sound.ids in
    let keys : keys_of h.owners ≡ filter (has_id (keys_of h.owners)) (ids h.table) =
    same_rising (keys_of h.owners) (filter (has_id (keys_of h.owners)) (ids h.table)) (Rise-sorted (keys_of h.owners) stand.ordered.owners)
    (AllPairs-filter (λ x y. x < y) (has_id (keys_of h.owners)) (ids h.table) rise.rising)
    (λ y. both (has_id (keys_of h.owners) y) (has_id (ids h.table) y)
    (λ at. has_id-ids h.table y
    ∙ All-contains (λ x. IsTrue (is_live h.table x)) (keys_of h.owners) y stand.refers.ownees ((has_id-Contains (keys_of h.owners) y).0 at))
    ∙ sym (has_id-filter (has_id (keys_of h.owners)) (ids h.table) y)) in
    let front = length-filter_le (has_id (keys_of h.owners)) (ids h.table) in
    omega (arith, many, listed, ap length keys, front, length-map h.owners (λ o. o.0), length-map h.table.objects (λ o. o.id), ap (λ (x : Table). length x.objects) stand.table)
  where
    both : (a b : Bool) → (a ≡ true → b ≡ true) → a ≡ (a && b)
    both true b live = sym (live refl)
    both false b live = refl

-- ---- the whole list

pub whole : (paths : ℕ) (first all : List Verdict) (count : ℕ → ℕ) (h : Heap) → first ≡ first_with_paths paths (first_verdicts count h) →
    GoesOn paths first (map (ownedby_verdict h) (violating_ownees h)) all → all ≡ first_with_paths paths (all_verdicts count h)
unfolding all_verdicts
whole paths first all count h are ownees = ownees (first_verdicts count h) are
