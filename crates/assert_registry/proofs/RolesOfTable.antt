-- Roles that say what is asserted are roles of the table.
use Rattle.std.proofs.Common.{◌≡◌, ◌≢◌, ℕ, ◌<◌, true, false, ◌&&◌, List, [], ◌∷◌, length, get_or, map, Option, None, Some, sym, ap, refl, subst, ◌∙◌, arith, ⊎_elim, eqb-true}
use Rattle.std.specs.Prelude.{IsTrue, unwrap_or}
use Rattle.std.specs.List.{All, AllPairs}
use Rattle.std.specs.Map.{keys_of, values_of}
use Rattle.std.specs.Option.{IsSome, option_and_then, option_map_or}
use Rattle.std.proofs.lemmas.Bool.{false≢true, or_cases, or_right, and_from}
pub use Rattle.std.proofs.lemmas.Bool.{and_parts}
use Rattle.std.proofs.lemmas.List.{length-map}
use Rattle.std.proofs.lemmas.List.Elements.{All-contains}
use Rattle.std.proofs.lemmas.List.Kept.{AllPairs-filter}
use Rattle.std.proofs.Math.ListN.{get_or-map}
use Rattle.graph_meaning.specs.declared.roles.OwnerRole.{OwnerRole}
use Rattle.graph_meaning.specs.declared.roles.OwnerRole.TheVariants.{NotOwned, OwnerCell, OwnerGone}
use Rattle.graph_meaning.specs.Heap.{ids, is_live}
use Rattle.graph_meaning.specs.Laws.{IdsRise}
use Rattle.graph_meaning.specs.Reach.{has_id}
use Rattle.graph_meaning.specs.Roles.{RoleTable, AreRolesOf, cells_of, kinds_of, owner_in, id_at}
use Rattle.graph_meaning.proofs.HeapLemmas.{has_id-ids}
use Rattle.graph_meaning.proofs.Membership.{has_id-head, has_id-filter, has_id-Contains}
use Rattle.object_table.specs.Placed.{PlacedTable, IsPlaced, id_in}
use Rattle.assert_registry.specs.Assertions.{Assertions, AreConsistent, owner_of}
use Rattle.assert_registry.specs.ByCell.{SpeakOfTable, AreRolesBy, IsRoleBy, owner_at, live_owners}
use Rattle.assert_registry.proofs.Owners.{IsByAnother, All-owner_of, has_id-owner_of, owner_of-has_id}
use Rattle.assert_registry.proofs.Rising.{Rise, Rise-sorted}

-- ---- cells that hold these objects, in order

module _ (f : ℕ → Option ℕ) where
  -- each cell holds one of them
  pub held_by : (cells ids : List ℕ) → map f cells ≡ map Some ids → (cell : ℕ) → has_id cells cell ≡ true → (id : ℕ) × (has_id ids id ≡ true) × (f cell ≡ Some id)
  held_by [] ids same cell at = absurd (false≢true at)
  held_by (c ∷ cells) [] same cell at = cc
  held_by (c ∷ cells) (id ∷ ids) same cell at =
      let first : f c ≡ Some id = cc in
      let others : map f cells ≡ map Some ids = cc in
      ⊎_elim
      (λ here. (id, has_id-head ids id, ap f (sym (eqb-true c cell here)) ∙ first))
      (λ later. let (y, among, held) = held_by cells ids others cell later in (y, or_right _ _ among, held))
      (or_cases _ _ at)

  -- and each of them is held by a cell
  pub holder_of : (cells ids : List ℕ) → map f cells ≡ map Some ids → (id : ℕ) → has_id ids id ≡ true → (cell : ℕ) × (has_id cells cell ≡ true) × (f cell ≡ Some id)
  holder_of cells [] same id at = absurd (false≢true at)
  holder_of [] (x ∷ ids) same id at = cc
  holder_of (c ∷ cells) (x ∷ ids) same id at =
      let first : f c ≡ Some x = cc in
      let others : map f cells ≡ map Some ids = cc in
      ⊎_elim
      (λ here. (c, has_id-head cells c, first ∙ ap Some (eqb-true x id here)))
      (λ later. let (y, among, held) = holder_of cells ids others id later in (y, or_right _ _ among, held))
      (or_cases _ _ at)

  -- the ids that they hold
  ids_held : (cells ids : List ℕ) → map f cells ≡ map Some ids → map (λ c. unwrap_or (f c) 0) cells ≡ ids
  ids_held [] [] same = refl
  ids_held [] (x ∷ ids) same = cc
  ids_held (c ∷ cells) [] same = cc
  ids_held (c ∷ cells) (x ∷ ids) same =
      let first : f c ≡ Some x = cc in
      let others : map f cells ≡ map Some ids = cc in
      ap (λ o. unwrap_or o 0 ∷ map (λ c. unwrap_or (f c) 0) cells) first ∙ ap (λ ys. x ∷ ys) (ids_held cells ids others)

All-at : (P : ℕ → Type 0) (xs : List ℕ) (x : ℕ) → All P xs → has_id xs x ≡ true → P x
All-at P xs x all at = All-contains P xs x all ((has_id-Contains xs x).0 at)

-- ---- owners that are live, and roles by them

-- whether an object is among the owners that are live
pub is_live_owner : (a : Assertions) (p : PlacedTable) (id : ℕ) → has_id (live_owners p.table a.owners) id ≡ (has_id (values_of a.owners) id && is_live p.table id)
is_live_owner a p id =
    has_id-filter (has_id (values_of a.owners)) (ids p.table) id ∙ ap (λ b. has_id (values_of a.owners) id && b) (has_id-ids p.table id)

-- the role of an ownee whose owner is in this cell
pub role-cell : (p : PlacedTable) → IsPlaced p → (owner id : ℕ) (role : OwnerRole) → id_in p owner ≡ Some id → IsRoleBy p (Some id) role → role ≡ OwnerCell owner
role-cell p placed owner id NotOwned held is = cc
role-cell p placed owner id (OwnerCell cell) held is = ap OwnerCell (placed.once cell owner id is.1 held)
role-cell p placed owner id (OwnerGone gone) held is =
    let e : id ≡ gone = cc in
    absurd (false≢true (sym is.1 ∙ ap (is_live p.table) (sym e) ∙ placed.live owner id held))

-- ---- the roles

module _ (a : Assertions) (p : PlacedTable) (r : RoleTable) (placed : IsPlaced p) (rise : IdsRise p.table) (consistent : AreConsistent a) (speak : SpeakOfTable a p.table) (by : AreRolesBy a p r) where
  held-some : (held : List ℕ) (o : Option ℕ) → IsTrue (option_map_or (has_id held) o false) → IsSome o
  held-some held None at = absurd (false≢true at)
  held-some held (Some x) at = refl

  owned-some : (o : Option ℕ) (role : OwnerRole) → IsRoleBy p (option_and_then (owner_of a.owners) o) role → role ≢ NotOwned → IsSome o
  owned-some (Some x) role is owned = refl
  owned-some None NotOwned is owned = absurd (owned refl)
  owned-some None (OwnerCell cell) is owned = absurd (false≢true is.0)
  owned-some None (OwnerGone id) is owned = cc

  -- an ownee and its owner, by cell
  pub owned-by : (cell owner : ℕ) → owner_in r cell ≡ OwnerCell owner → (ownee : ℕ) × (id : ℕ) × (id_in p cell ≡ Some ownee) × (owner_of a.owners ownee ≡ Some id) × (id_in p owner ≡ Some id)
  owned-by cell owner is = go (id_in p cell) refl (subst (IsRoleBy p (owner_at p a.owners cell)) is (by.ownees cell))
    where
      go : (o : Option ℕ) → id_in p cell ≡ o →
          IsSome (option_and_then (owner_of a.owners) o) × (id_in p owner ≡ option_and_then (owner_of a.owners) o) →
          (ownee : ℕ) × (id : ℕ) × (id_in p cell ≡ Some ownee) × (owner_of a.owners ownee ≡ Some id) × (id_in p owner ≡ Some id)
      go None held role = absurd (false≢true role.0)
      go (Some ownee) held role = found (owner_of a.owners ownee) refl role
        where
          found : (o : Option ℕ) → owner_of a.owners ownee ≡ o → IsSome o × (id_in p owner ≡ o) →
              (ownee : ℕ) × (id : ℕ) × (id_in p cell ≡ Some ownee) × (owner_of a.owners ownee ≡ Some id) × (id_in p owner ≡ Some id)
          found None is role = absurd (false≢true role.0)
          found (Some id) is role = (ownee, id, held, is, role.1)

  by_another : (cell owner : ℕ) → owner_in r cell ≡ OwnerCell owner → (owner ≢ cell) × IsSome (id_in p owner)
  by_another cell owner is =
      let (ownee, id, held, owned, by_cell) = owned-by cell owner is in
      let other : id ≢ ownee = All-owner_of IsByAnother a.owners ownee id consistent.others owned in
      (λ same. let e : Some id ≡ Some ownee = sym by_cell ∙ ap (id_in p) same ∙ held in let e' : id ≡ ownee = cc in other e', subst IsSome (sym by_cell) refl)

  owns-some : (owner : ℕ) → has_id r.owners owner ≡ true → (cell : ℕ) × (owner_in r cell ≡ OwnerCell owner)
  owns-some owner at =
      let (id, among, held) = held_by (id_in p) r.owners (live_owners p.table a.owners) by.owners owner at in
      let (owns, live) = and_parts (has_id (values_of a.owners) id) (is_live p.table id) (sym (is_live_owner a p id) ∙ among) in
      let (ownee, listed, owned) = owner_of-has_id a.owners id (Rise-sorted (keys_of a.owners) consistent.owners) owns in
      let (cell, at_cell) = placed.somewhere ownee (All-at (λ x. IsTrue (is_live p.table x)) (keys_of a.owners) ownee speak.ownees listed) in
      let owner_is : owner_at p a.owners cell ≡ Some id = ap (option_and_then (owner_of a.owners)) at_cell ∙ owned in
      (cell, role-cell p placed owner id (owner_in r cell) held (subst (λ o. IsRoleBy p o (owner_in r cell)) owner_is (by.ownees cell)))

  owned-listed : (cell owner : ℕ) → owner_in r cell ≡ OwnerCell owner → has_id r.owners owner ≡ true
  owned-listed cell owner is =
      let (ownee, id, held, owned, by_cell) = owned-by cell owner is in
      let among : has_id (live_owners p.table a.owners) id ≡ true = is_live_owner a p id ∙ and_from _ _ (has_id-owner_of a.owners ownee id owned) (placed.live owner id by_cell) in
      let (other, listed, held_there) = holder_of (id_in p) r.owners (live_owners p.table a.owners) by.owners id among in
      ap (has_id r.owners) (sym (placed.once other owner id held_there by_cell)) ∙ listed

  owners-rise : AllPairs (λ o q. id_at p.cells o < id_at p.cells q) r.owners
  owners-rise i j d less within =
      let held : map (id_at p.cells) r.owners ≡ live_owners p.table a.owners = ids_held (id_in p) r.owners (live_owners p.table a.owners) by.owners in
      let rising : Rise (live_owners p.table a.owners) = AllPairs-filter (λ x y. x < y) (has_id (values_of a.owners)) (ids p.table) rise.rising in
      let many : length (map (id_at p.cells) r.owners) ≡ length r.owners = length-map r.owners (id_at p.cells) in
      let less_there = subst Rise (sym held) rising i j (id_at p.cells d) less (omega arith) in
      subst (λ x. x < id_at p.cells (get_or r.owners j d)) (get_or-map (id_at p.cells) r.owners i d)
      (subst (λ y. get_or (map (id_at p.cells) r.owners) i (id_at p.cells d) < y) (get_or-map (id_at p.cells) r.owners j d) less_there)

  pub roles_of_table : cells_of r ≡ length p.cells → kinds_of r ≡ length p.table.kinds → AreRolesOf p.cells (length p.table.kinds) r
  roles_of_table many_cells many_kinds = record {
    many_cells = many_cells;
    many_kinds = many_kinds;
    on_dead = λ cell at. held-some a.dead (id_in p cell) (sym (by.dead cell) ∙ at);
    on_unshared = λ cell at. held-some a.unshared (id_in p cell) (sym (by.unshared cell) ∙ at);
    on_ownees = λ cell. owned-some (id_in p cell) (owner_in r cell) (by.ownees cell);
    by_others = by_another;
    are_owners = λ owner. (owns-some owner, λ at. owned-listed at.0 owner at.1);
    rising = owners-rise;
  }
