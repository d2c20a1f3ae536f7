-- The violating ownees and their owners, by cells.
use Rattle.std.proofs.Common.{◌≡◌, ◌≢◌, ℕ, zero, suc, ◌<◌, true, ⊎_elim, List, [], ◌∷◌, map, get_or, cond, Option, None, Some, sym, ap, refl, subst, ◌∙◌, arith, eqb-true}
use Rattle.std.specs.Prelude.{unwrap_or}
use Rattle.std.specs.List.{All, slice_get}
use Rattle.std.specs.Map.{keys_of}
use Rattle.std.specs.Option.{option_and_then}
use Rattle.std.proofs.lemmas.Bool.{false≢true, or_cases, or_right}
use Rattle.std.proofs.lemmas.List.Elements.{All-filter, All-head, All-tail}
use Rattle.std.proofs.lemmas.Option.{slice_get-get_or}
use Rattle.graph_meaning.specs.declared.roles.OwnerRole.TheVariants.{NotOwned}
use Rattle.graph_meaning.specs.Collecting.{violating_ownees}
use Rattle.graph_meaning.specs.Heap.{Heap}
use Rattle.graph_meaning.specs.Reach.{has_id}
use Rattle.graph_meaning.specs.Roles.{RoleTable, owner_in}
use Rattle.graph_meaning.proofs.Membership.{has_id-head}
use Rattle.object_table.specs.Placed.{PlacedTable, id_in}
use Rattle.assert_registry.specs.Assertions.{owner_of}
use Rattle.assert_registry.specs.ByCell.{owner_at, IsRoleBy}
use Rattle.assert_registry.specs.Laws.{StandFor}
use Rattle.assert_registry.proofs.Owners.{is_at-itself, is_at-other}
use Rattle.assert_registry.proofs.Rising.{Rise, Rise-sorted, Rise-head, Rise-tail}
use Rattle.verdict_list.specs.Ownership.{OwnershipTable, AreViolating}
use Rattle.verdict_list.specs.Listed.{owned_pair}

-- ---- pairs of an ownee and its owner

-- the owner is the one that a look-up finds
abbrev IsListed : List (ℕ × ℕ) → ℕ × ℕ → Type 0
IsListed owners o = owner_of owners o.0 ≡ Some o.1

is_key : (owners : List (ℕ × ℕ)) (n : ℕ) (o : ℕ × ℕ) → slice_get owners n ≡ Some o → has_id (keys_of owners) o.0 ≡ true
is_key [] n o at = cc
is_key (e ∷ owners) zero o at =
    let same : e ≡ o = cc in
    ap (has_id (keys_of (e ∷ owners))) (sym (ap (λ (x : ℕ × ℕ). x.0) same)) ∙ has_id-head (keys_of owners) e.0
is_key (e ∷ owners) (suc n) o at = or_right _ _ (is_key owners n o at)

listed_at : (owners : List (ℕ × ℕ)) → Rise (keys_of owners) → (n : ℕ) (o : ℕ × ℕ) → slice_get owners n ≡ Some o → IsListed owners o
listed_at [] rise n o at = cc
listed_at (e ∷ owners) rise zero o at =
    let same : e ≡ o = cc in
    subst (IsListed (e ∷ owners)) same (ap (λ b. cond b (Some e.1) (owner_of owners e.0)) (is_at-itself e.0))
listed_at (e ∷ owners) rise (suc n) o at =
    let above : e.0 < o.0 = Rise-head e.0 (keys_of owners) rise o.0 (is_key owners n o at) in
    ap (λ b. cond b (Some e.1) (owner_of owners o.0)) (is_at-other o.0 e.0 (λ same. let e' : o.0 ≡ e.0 = same in omega (arith, above, e')))
    ∙ listed_at owners (Rise-tail e.0 (keys_of owners) rise) n o at

all_listed : (owners : List (ℕ × ℕ)) → Rise (keys_of owners) → All (IsListed owners) owners
all_listed owners rise k d within = listed_at owners rise k (get_or owners k d) (slice_get-get_or owners k d within)

-- ---- by cells

module _ (P : ℕ × ℕ → Type 0) (f : ℕ → Option ℕ) where
  pair_at : (cells : List ℕ) (os : List (ℕ × ℕ)) → map f cells ≡ map (λ o. Some o.0) os → All P os → (cell : ℕ) → has_id cells cell ≡ true → (o : ℕ × ℕ) × (f cell ≡ Some o.0) × P o
  pair_at [] os same all cell at = absurd (false≢true at)
  pair_at (c ∷ cells) [] same all cell at = cc
  pair_at (c ∷ cells) (o ∷ os) same all cell at =
      let first : f c ≡ Some o.0 = cc in
      let others : map f cells ≡ map (λ o. Some o.0) os = cc in
      ⊎_elim
      (λ here. (o, ap f (sym (eqb-true c cell here)) ∙ first, All-head P o os all))
      (λ later. pair_at cells os others (All-tail P o os all) cell later)
      (or_cases _ _ at)

pairs_are : (owners : List (ℕ × ℕ)) (f : ℕ → Option ℕ) (cells : List ℕ) (os : List (ℕ × ℕ)) → map f cells ≡ map (λ o. Some o.0) os →
    All (IsListed owners) os → map (λ cell. (unwrap_or (f cell) 0, unwrap_or (owner_of owners (unwrap_or (f cell) 0)) 0)) cells ≡ os
pairs_are owners f [] [] same all = refl
pairs_are owners f [] (o ∷ os) same all = cc
pairs_are owners f (c ∷ cells) [] same all = cc
pairs_are owners f (c ∷ cells) (o ∷ os) same all =
    let first : f c ≡ Some o.0 = cc in
    let others : map f cells ≡ map (λ o. Some o.0) os = cc in
    let here : owner_of owners o.0 ≡ Some o.1 = All-head (IsListed owners) o os all in
    let rest = pairs_are owners f cells os others (All-tail (IsListed owners) o os all) in
    ap (λ x. (unwrap_or x 0, unwrap_or (owner_of owners (unwrap_or x 0)) 0) ∷ map (λ cell. (unwrap_or (f cell) 0, unwrap_or (owner_of owners (unwrap_or (f cell) 0)) 0)) cells) first
    ∙ ap (λ x. (o.0, unwrap_or x 0) ∷ map (λ cell. (unwrap_or (f cell) 0, unwrap_or (owner_of owners (unwrap_or (f cell) 0)) 0)) cells) here
    ∙ ap (λ xs. o ∷ xs) rest

module _ (p : PlacedTable) (r : RoleTable) (h : Heap) (c : OwnershipTable) (stand : StandFor p r h) (violating : AreViolating p h c) where
  listed : All (IsListed h.owners) (violating_ownees h)
  unfolding violating_ownees
  listed = All-filter _ (IsListed h.owners) h.owners (all_listed h.owners (Rise-sorted (keys_of h.owners) stand.ordered.owners))

  -- the object in a cell of a violating ownee, and its owner
  pub ownee_at : (cell : ℕ) → has_id c.ownees cell ≡ true → (o : ℕ × ℕ) × (id_in p cell ≡ Some o.0) × (owner_of h.owners o.0 ≡ Some o.1)
  ownee_at = pair_at (IsListed h.owners) (id_in p) c.ownees (violating_ownees h) violating.ownees listed

  pub ownees-are : map (owned_pair p h) c.ownees ≡ violating_ownees h
  ownees-are = pairs_are h.owners (id_in p) c.ownees (violating_ownees h) violating.ownees listed

  pub owner-is : (cell : ℕ) (o : ℕ × ℕ) → id_in p cell ≡ Some o.0 → owner_of h.owners o.0 ≡ Some o.1 → owner_at p h.owners cell ≡ Some o.1
  owner-is cell o held owned = ap (option_and_then (owner_of h.owners)) held ∙ owned

  pub is_owned : (cell : ℕ) → has_id c.ownees cell ≡ true → owner_in r cell ≢ NotOwned
  is_owned cell at none =
      let (o, held, owned) = ownee_at cell at in
      let nobody : owner_at p h.owners cell ≡ None = subst (IsRoleBy p (owner_at p h.owners cell)) none (stand.ownees cell) in
      let somebody = owner-is cell o held owned in
      cc

  pub pair-is : (cell : ℕ) (o : ℕ × ℕ) → id_in p cell ≡ Some o.0 → owner_of h.owners o.0 ≡ Some o.1 → owned_pair p h cell ≡ o
  pair-is cell o held owned =
      ap (λ x. (unwrap_or x 0, unwrap_or (owner_of h.owners (unwrap_or x 0)) 0)) held ∙ ap (λ x. (o.0, unwrap_or x 0)) owned
