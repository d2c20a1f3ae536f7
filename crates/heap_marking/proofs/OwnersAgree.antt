-- Whom the roles by cell make owners and ownees is whom the heap makes so by id.
use Rattle.std.proofs.Common.{◌≡◌, ℕ, zero, suc, Bool, true, false, cond, ⊎_elim, List, [], ◌∷◌, slice_get, sym, refl, ap, ◌∙◌, arith, eqb, eqb-true, eq-eqb, Some}
use Rattle.std.specs.Prelude.{◌&&◌}
use Rattle.std.specs.BTreeMap.{is_at}
use Rattle.std.specs.Cmp.{both_ways}
use Rattle.std.specs.List.{list_any}
use Rattle.std.specs.Map.{keys_of}
use Rattle.std.specs.List.Sorted.{IsStrictlySortedBy}
use Rattle.std.specs.Ordering.{nat_cmp}
use Rattle.std.proofs.lemmas.Bool.{cases_Bool, false≢true, and_from, or_cases, or_left, or_right}
use Rattle.std.proofs.lemmas.Bool.Decides.{nat_tests}
use Rattle.std.proofs.lemmas.Cmp.{eq_by_cmp_equiv, nat_cmp_total}
use Rattle.std.proofs.lemmas.Map.Entries.{lookup_from_place}
use Rattle.std.proofs.lemmas.Map.Keys.{IsDistinct-from_sorted}
use Rattle.graph_meaning.specs.declared.roles.OwnerRole.{OwnerRole}
use Rattle.graph_meaning.specs.declared.roles.OwnerRole.TheVariants.{NotOwned, OwnerCell, OwnerGone}
use Rattle.graph_meaning.specs.Assertions.{is_owner, is_ownee}
use Rattle.graph_meaning.specs.Heap.{Heap}
use Rattle.graph_meaning.specs.Reach.{has_id}
use Rattle.graph_meaning.specs.Roles.{RoleTable, owner_in, has_owner}
use Rattle.object_table.specs.Placed.{PlacedTable, id_in, IsPlaced}
use Rattle.assert_registry.specs.Assertions.{owner_of}
use Rattle.assert_registry.specs.Laws.{StandFor, SayOfHeap}
use Rattle.assert_registry.proofs.ByHeap.{roles_say_of_heap}
use Rattle.assert_registry.proofs.RolesOfTable.{and_parts}
use Rattle.scan_job.specs.Cells.{is_owned_by}
use Rattle.heap_marking.specs.TracedHeaps.{owns}

-- The heap has this table, and its owners and ownees are those of the roles.
-- owners: an object is an owner where its cell is among the owners' cells
-- ownees: it is an ownee where its cell has an ownee's role
-- pairs: and the owner is the object in the cell that the role names
pub record OwnersAgree (p : PlacedTable) (r : RoleTable) (h : Heap) : Type 0 where
  pub table : h.table ≡ p.table
  pub owners : (cell id : ℕ) → id_in p cell ≡ Some id → is_owner h id ≡ has_id r.owners cell
  pub ownees : (cell id : ℕ) → id_in p cell ≡ Some id → is_ownee h id ≡ has_owner (owner_in r cell)
  pub pairs : (cell other id owner : ℕ) → id_in p cell ≡ Some id → id_in p other ≡ Some owner → owns h owner id ≡ is_owned_by other (owner_in r cell)

-- ---- the owner that a look-up finds

module _ (id owner : ℕ) where
  abbrev is_pair : ℕ × ℕ → Bool
  is_pair o = eqb o.0 id && eqb o.1 owner

  found-pair : (es : List (ℕ × ℕ)) → owner_of es id ≡ Some owner → list_any is_pair es ≡ true
  found-pair [] e = cc
  found-pair (o ∷ es) e = go (is_at (nat_cmp id) o.0) refl e (found-pair es)
    where
      same : (x : ℕ) → is_at (nat_cmp id) x ≡ true → eqb x id ≡ true
      same x at = grind (arith, nat_tests)

      go : (b : Bool) → is_at (nat_cmp id) o.0 ≡ b → cond b (Some o.1) (owner_of es id) ≡ Some owner → (owner_of es id ≡ Some owner → list_any is_pair es ≡ true) → list_any is_pair (o ∷ es) ≡ true
      go true at e rest =
          let by : o.1 ≡ owner = cc in or_left _ _ (and_from _ _ (same o.0 at) (eq-eqb o.1 owner by))
      go false at e rest = or_right _ _ (rest e)

  place-pair : (es : List (ℕ × ℕ)) → list_any is_pair es ≡ true → (i : ℕ) × (slice_get es i ≡ Some (id, owner))
  place-pair [] e = absurd (false≢true e)
  place-pair (o ∷ es) e =
      ⊎_elim
      (λ here.
      let both = and_parts (eqb o.0 id) (eqb o.1 owner) here in
      let first = eqb-true o.0 id both.0 in
      let second = eqb-true o.1 owner both.1 in (zero, λ i. Some (first i, second i)))
      (λ later. let r = place-pair es later in (suc r.0, r.1))
      (or_cases _ _ e)

  pair-found : (es : List (ℕ × ℕ)) → IsStrictlySortedBy nat_cmp (keys_of es) → list_any is_pair es ≡ true → owner_of es id ≡ Some owner
  pair-found es rising e =
      let place = place-pair es e in
      lookup_from_place (eq_by_cmp_equiv nat_cmp_total) es place.0 id owner (IsDistinct-from_sorted nat_cmp (keys_of es) rising) place.1

-- ---- the roles of a heap

module _ (p : PlacedTable) (r : RoleTable) (h : Heap) (placed : IsPlaced p) (stand : StandFor p r h) where
  say : SayOfHeap h p r
  say = roles_say_of_heap h p r placed stand

  same-ownee : (cell id : ℕ) → id_in p cell ≡ Some id → (role : OwnerRole) → owner_in r cell ≡ role → is_ownee h id ≡ has_owner role
  same-ownee cell id at NotOwned e = (say.ownees cell id at).0 e
  same-ownee cell id at (OwnerCell o) e =
      ⊎_elim (λ some. some) (λ none. (let un = (say.ownees cell id at).1 none in cc)) (cases_Bool (is_ownee h id))
  same-ownee cell id at (OwnerGone o) e =
      ⊎_elim (λ some. some) (λ none. (let un = (say.ownees cell id at).1 none in cc)) (cases_Bool (is_ownee h id))

  owned-by : (other : ℕ) (role : OwnerRole) → is_owned_by other role ≡ true → role ≡ OwnerCell other
  owned-by other NotOwned e = absurd (false≢true e)
  owned-by other (OwnerCell o) e = ap OwnerCell (eqb-true o other e)
  owned-by other (OwnerGone id) e = absurd (false≢true e)

  same-pair : (cell other id owner : ℕ) → id_in p cell ≡ Some id → id_in p other ≡ Some owner → owns h owner id ≡ is_owned_by other (owner_in r cell)
  same-pair cell other id owner at there =
      let tie = say.owns cell id other owner at there in
      both_ways (owns h owner id) (is_owned_by other (owner_in r cell))
      (λ owned. ap (is_owned_by other) (tie.1 (pair-found id owner h.owners stand.ordered.owners owned)) ∙ eq-eqb other other refl)
      (λ is. found-pair id owner h.owners (tie.0 (owned-by other (owner_in r cell) is)))

  pub owners_agree : OwnersAgree p r h
  owners_agree = record {
    table = stand.table;
    owners = λ cell id at. sym (say.owners cell id at);
    ownees = λ cell id at. same-ownee cell id at (owner_in r cell) refl;
    pairs = same-pair;
  }
