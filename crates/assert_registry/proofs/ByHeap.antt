-- What roles say by cell is what a heap says by id.
use Rattle.std.proofs.Common.{◌≡◌, ℕ, Bool, true, false, List, map, get_or, Option, Some, position, sym, ap, refl, subst, ◌∙◌, arith}
use Rattle.std.specs.Prelude.{◌==◌, ◌↔◌}
use Rattle.std.specs.BTreeMap.{is_at}
use Rattle.std.specs.Cmp.{both_ways}
use Rattle.std.specs.Map.{keys_of, values_of}
use Rattle.std.specs.Option.{is_some, option_and_then, option_map_or}
use Rattle.std.specs.Ordering.{nat_cmp}
use Rattle.std.specs.Str.{bytes_eq}
use Rattle.std.proofs.lemmas.Bool.{false≢true, and_from, and_parts}
use Rattle.std.proofs.lemmas.Bool.Decides.{nat_tests}
use Rattle.std.proofs.lemmas.Map.Made.{is_some-lookup}
use Rattle.graph_meaning.specs.declared.roles.OwnerRole.{OwnerRole}
use Rattle.graph_meaning.specs.declared.roles.OwnerRole.TheVariants.{NotOwned, OwnerCell, OwnerGone}
use Rattle.graph_meaning.specs.Heap.{Heap, is_live}
use Rattle.graph_meaning.specs.Reach.{has_id}
use Rattle.graph_meaning.specs.Roles.{RoleTable, owner_in}
use Rattle.graph_meaning.proofs.Membership.{list_any_agree}
use Rattle.object_table.specs.Placed.{PlacedTable, IsPlaced, id_in}
use Rattle.object_table.proofs.Positions.{position_named}
use Rattle.assert_registry.specs.Assertions.{Assertions, limit_of, owner_of}
use Rattle.assert_registry.specs.ByCell.{AreRolesBy, IsRoleBy, holds_one_of, owner_at, live_owners}
use Rattle.assert_registry.specs.Laws.{StandFor, RolesStandForHeap, RolesSayOfHeap}
use Rattle.assert_registry.proofs.RolesOfTable.{held_by, holder_of, is_live_owner, role-cell}

-- an object is an ownee where a look-up finds its owner
ownee_found : (owners : List (ℕ × ℕ)) (id : ℕ) → has_id (keys_of owners) id ≡ is_some (owner_of owners id)
ownee_found owners id =
    list_any_agree (λ x. x == id) (is_at (nat_cmp id)) (λ x. same_test x id) (keys_of owners) ∙ sym (is_some-lookup (is_at (nat_cmp id)) owners)
  where
    same_test : (x y : ℕ) → (x == y) ≡ is_at (nat_cmp y) x
    same_test x y = grind (arith, nat_tests)

module _ (a : Assertions) (p : PlacedTable) (r : RoleTable) (placed : IsPlaced p) (by : AreRolesBy a p r) where
  flag : (flags : List Bool) (ids : List ℕ) → ((cell : ℕ) → get_or flags cell false ≡ holds_one_of p ids cell) → (cell id : ℕ) → id_in p cell ≡ Some id → get_or flags cell false ≡ has_id ids id
  flag flags ids says cell id held = says cell ∙ ap (λ o. option_map_or (has_id ids) o false) held

  -- the role of the object in a cell is by its owner
  role_by : (cell id : ℕ) → id_in p cell ≡ Some id → IsRoleBy p (owner_of a.owners id) (owner_in r cell)
  role_by cell id held =
      subst (λ o. IsRoleBy p o (owner_in r cell)) (ap (option_and_then (owner_of a.owners)) held) (by.ownees cell)

  is_owner-cell : (cell id : ℕ) → id_in p cell ≡ Some id → has_id r.owners cell ≡ has_id (values_of a.owners) id
  is_owner-cell cell id held =
      both_ways (has_id r.owners cell) (has_id (values_of a.owners) id)
      (λ at.
      let (other, among, held_there) = held_by (id_in p) r.owners (live_owners p.table a.owners) by.owners cell at in
      let same : other ≡ id = (let e : Some other ≡ Some id = sym held_there ∙ held in cc) in
      ap (has_id (values_of a.owners)) (sym same) ∙ (and_parts (has_id (values_of a.owners) other) (is_live p.table other) (sym (is_live_owner a p other) ∙ among)).0)
      (λ owns.
      let among : has_id (live_owners p.table a.owners) id ≡ true = is_live_owner a p id ∙ and_from _ _ owns (placed.live cell id held) in
      let (other, listed, held_there) = holder_of (id_in p) r.owners (live_owners p.table a.owners) by.owners id among in
      ap (has_id r.owners) (sym (placed.once other cell id held_there held)) ∙ listed)

  is_ownee-cell : (cell id : ℕ) → id_in p cell ≡ Some id → (owner_in r cell ≡ NotOwned) ↔ (has_id (keys_of a.owners) id ≡ false)
  is_ownee-cell cell id held = (
    λ none. ownee_found a.owners id ∙ ap is_some (subst (IsRoleBy p (owner_of a.owners id)) none (role_by cell id held)),
    λ none. unowned (owner_of a.owners id) (owner_in r cell) (sym (ownee_found a.owners id) ∙ none) (role_by cell id held),
  )
    where
      unowned : (o : Option ℕ) (role : OwnerRole) → is_some o ≡ false → IsRoleBy p o role → role ≡ NotOwned
      unowned o NotOwned none is = refl
      unowned o (OwnerCell owner) none is = absurd (false≢true (sym none ∙ is.0))
      unowned o (OwnerGone gone) none is = absurd (false≢true (sym none ∙ ap is_some is.0))

  owns-cell : (cell id owner other : ℕ) → id_in p cell ≡ Some id → id_in p owner ≡ Some other → (owner_in r cell ≡ OwnerCell owner) ↔ (owner_of a.owners id ≡ Some other)
  owns-cell cell id owner other held held_there = (
    λ is. sym (subst (IsRoleBy p (owner_of a.owners id)) is (role_by cell id held)).1 ∙ held_there,
    λ owned. role-cell p placed owner other (owner_in r cell) held_there (subst (λ o. IsRoleBy p o (owner_in r cell)) owned (role_by cell id held)),
  )

-- the assertions of a heap, with its limits by number as the roles have them
abbrev assertions_in : Heap → RoleTable → Assertions
assertions_in h r = record { dead = h.dead; unshared = h.unshared; limits = r.limits; owners = h.owners }

are_roles_by : (h : Heap) (p : PlacedTable) (r : RoleTable) → StandFor p r h → AreRolesBy (assertions_in h r) p r
are_roles_by h p r stand = record { dead = stand.dead; unshared = stand.unshared; ownees = stand.ownees; limits = λ kind. refl; owners = stand.owners }

pub roles_say_of_heap : RolesSayOfHeap
roles_say_of_heap h p r placed stand =
    let a : Assertions = assertions_in h r in
    let by : AreRolesBy a p r = are_roles_by h p r stand in
    record {
      dead = flag a p r placed by r.dead h.dead by.dead;
      unshared = flag a p r placed by r.unshared h.unshared by.unshared;
      owners = is_owner-cell a p r placed by;
      ownees = is_ownee-cell a p r placed by;
      owns = owns-cell a p r placed by;
    }

pub roles_stand_for_heap : RolesStandForHeap
roles_stand_for_heap h a p r refers ordered has table distinct by = record {
  refers = refers;
  ordered = ordered;
  table = table;
  dead = λ cell. by.dead cell ∙ ap (λ ids. holds_one_of p ids cell) (sym has.dead);
  unshared = λ cell. by.unshared cell ∙ ap (λ ids. holds_one_of p ids cell) (sym has.unshared);
  ownees = λ cell. subst (λ owners. IsRoleBy p (owner_at p owners cell) (owner_in r cell)) (sym has.owners) (by.ownees cell);
  owners = by.owners ∙ ap (λ owners. map Some (live_owners p.table owners)) (sym has.owners);
  limits =
      λ kind name at. by.limits kind
      ∙ sym
      (has.limits name ∙ ap (λ t. option_and_then (limit_of a.limits) (position (bytes_eq name) t.kinds)) table
      ∙ ap (option_and_then (limit_of a.limits)) (position_named p.table.kinds kind name distinct at));
}
