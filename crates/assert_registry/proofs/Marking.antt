-- Flags and roles of cells, set for one object after another.
use Rattle.std.proofs.Common.{◌≡◌, ◌≢◌, ℕ, zero, suc, ◌+◌, ◌<◌, ◌≤◌, Bool, true, false, ◌||◌, ◌⊎◌, inl, inr, ⊎_elim, List, [], ◌∷◌, length, get_or, set, drop}
use Rattle.std.proofs.Common.{replicate, Option, None, Some, sym, ap, refl, subst, ◌∙◌}
use Rattle.std.specs.Option.{option_and_then, option_map_or}
use Rattle.std.proofs.lemmas.Bool.{cases_eq, ne_eqb, or_left, or_right}
use Rattle.std.proofs.Math.ListN.{drop_of_length-le}
use Rattle.std.proofs.lemmas.List.{drop_more, get_or-set_same, get_or-set_other}
use Rattle.graph_meaning.specs.declared.roles.OwnerRole.{OwnerRole}
use Rattle.graph_meaning.specs.declared.roles.OwnerRole.TheVariants.{NotOwned}
use Rattle.graph_meaning.specs.Reach.{has_id}
use Rattle.graph_meaning.proofs.Membership.{has_id-head}
use Rattle.object_table.specs.Placed.{PlacedTable, IsPlaced, id_in}
use Rattle.assert_registry.specs.Assertions.{owner_of}
use Rattle.assert_registry.specs.ByCell.{holds_one_of, owner_at, IsRoleBy}
use Rattle.assert_registry.proofs.Owners.{is_at-other}

-- the objects that are left, the next first
pub drop_next : (ids : List ℕ) (i id : ℕ) → i < length ids → id ≡ get_or ids i id → drop i ids ≡ id ∷ drop (i + 1) ids
drop_next ids i id within is = drop_more ids i id within ∙ ap (λ x. x ∷ drop (i + 1) ids) (sym is)

module _ (p : PlacedTable) (placed : IsPlaced p) (id cell : ℕ) (held : id_in p cell ≡ Some id) where
  -- no other cell holds the object
  elsewhere : (other : ℕ) → other ≢ cell → id_in p other ≢ Some id
  elsewhere other ne at = ne (placed.once other cell id at held)

  -- ---- flags

  holds-itself : (rest : List ℕ) → holds_one_of p (id ∷ rest) cell ≡ true
  holds-itself rest = rw held (has_id-head rest id)

  holds-other : (rest : List ℕ) (other : ℕ) → other ≢ cell → holds_one_of p (id ∷ rest) other ≡ holds_one_of p rest other
  holds-other rest other ne = go (id_in p other) (elsewhere other ne)
    where
      go : (o : Option ℕ) → o ≢ Some id → option_map_or (has_id (id ∷ rest)) o false ≡ option_map_or (has_id rest) o false
      go None apart = refl
      go (Some x) apart = rw (ne_eqb id x (λ e. apart (ap Some (sym e)))) refl

  -- The flag of the object's cell is set, and fewer are left.
  flag_more : (flags : List Bool) (rest : List ℕ) → cell < length flags → (other : ℕ) →
      (get_or (set flags cell true) other false || holds_one_of p rest other) ≡ (get_or flags other false || holds_one_of p (id ∷ rest) other)
  flag_more flags rest within other = ⊎_elim same apart (cases_eq other cell)
    where
      same : other ≡ cell → (get_or (set flags cell true) other false || holds_one_of p rest other) ≡ (get_or flags other false || holds_one_of p (id ∷ rest) other)
      same e =
          subst (λ x. (get_or (set flags cell true) x false || holds_one_of p rest x) ≡ (get_or flags x false || holds_one_of p (id ∷ rest) x)) (sym e)
          (or_left _ _ (get_or-set_same flags cell true false within) ∙ sym (or_right _ _ (holds-itself rest)))

      apart : other ≢ cell → (get_or (set flags cell true) other false || holds_one_of p rest other) ≡ (get_or flags other false || holds_one_of p (id ∷ rest) other)
      apart ne =
          ap (λ b. b || holds_one_of p rest other) (get_or-set_other flags cell other true false ne) ∙ ap (λ b. get_or flags other false || b) (sym (holds-other rest other ne))

  -- What the flags say together with the objects that are left stays the same when the flag of the first of these is set.
  pub flag_first : (flags : List Bool) (left all : List ℕ) (is_set : ℕ → Bool) → cell < length flags → all ≡ id ∷ left →
      ((other : ℕ) → (get_or flags other false || holds_one_of p all other) ≡ is_set other) →
      (other : ℕ) → (get_or (set flags cell true) other false || holds_one_of p left other) ≡ is_set other
  flag_first flags left all is_set within first so_far other =
      flag_more flags left within other ∙ ap (λ ids. get_or flags other false || holds_one_of p ids other) (sym first) ∙ so_far other

  -- ---- roles

  owner-other : (rest : List (ℕ × ℕ)) (owner other : ℕ) → other ≢ cell → owner_at p ((id, owner) ∷ rest) other ≡ owner_at p rest other
  owner-other rest owner other ne = go (id_in p other) (elsewhere other ne)
    where
      go : (o : Option ℕ) → o ≢ Some id → option_and_then (owner_of ((id, owner) ∷ rest)) o ≡ option_and_then (owner_of rest) o
      go None apart = refl
      go (Some x) apart = rw (is_at-other x id (λ e. apart (ap Some e))) refl

-- no object is left
pub flag_all : (p : PlacedTable) (flags : List Bool) (ids : List ℕ) (i : ℕ) → length ids ≤ i → (cell : ℕ) →
    (get_or flags cell false || holds_one_of p (drop i ids) cell) ≡ get_or flags cell false
flag_all p flags ids i past cell =
    ap (λ left. get_or flags cell false || holds_one_of p left cell) (drop_of_length-le ids past) ∙ none (get_or flags cell false) (id_in p cell)
  where
    none : (b : Bool) (o : Option ℕ) → (b || option_map_or (has_id []) o false) ≡ b
    none true o = refl
    none false None = refl
    none false (Some x) = refl

-- A cell has the role that these owners give its object; or it has none yet, and the owners that are left give it the same.
abbrev pub HasRoleSoFar : PlacedTable → List (ℕ × ℕ) → List (ℕ × ℕ) → List OwnerRole → ℕ → Type 0
HasRoleSoFar p owners rest roles cell =
    IsRoleBy p (owner_at p owners cell) (get_or roles cell NotOwned)
    ⊎ ((get_or roles cell NotOwned ≡ NotOwned) × (owner_at p rest cell ≡ owner_at p owners cell))

-- The role of an ownee's cell is set, and fewer owners are left.
pub role_more : (p : PlacedTable) (placed : IsPlaced p) (owners rest : List (ℕ × ℕ)) (roles : List OwnerRole) (ownee owner cell : ℕ) (role : OwnerRole) →
    id_in p cell ≡ Some ownee → owner_of owners ownee ≡ Some owner → IsRoleBy p (Some owner) role → cell < length roles → (other : ℕ) →
    HasRoleSoFar p owners ((ownee, owner) ∷ rest) roles other → HasRoleSoFar p owners rest (set roles cell role) other
role_more p placed owners rest roles ownee owner cell role held owned by within other so_far =
    ⊎_elim same apart (cases_eq other cell)
  where
    at_cell : IsRoleBy p (owner_at p owners cell) (get_or (set roles cell role) cell NotOwned)
    at_cell = rw (held, owned, get_or-set_same roles cell role NotOwned within) by

    same : other ≡ cell → HasRoleSoFar p owners rest (set roles cell role) other
    same e = inl (subst (λ x. IsRoleBy p (owner_at p owners x) (get_or (set roles cell role) x NotOwned)) (sym e) at_cell)

    apart : other ≢ cell → HasRoleSoFar p owners rest (set roles cell role) other
    apart ne =
        let unset = get_or-set_other roles cell other role NotOwned ne in
        ⊎_elim
        (λ has. inl (subst (IsRoleBy p (owner_at p owners other)) (sym unset) has))
        (λ none. inr (unset ∙ none.0, sym (owner-other p placed ownee cell held rest owner other ne) ∙ none.1))
        so_far

-- no owner is left
pub role_all : (p : PlacedTable) (owners : List (ℕ × ℕ)) (roles : List OwnerRole) (cell : ℕ) → HasRoleSoFar p owners [] roles cell → IsRoleBy p (owner_at p owners cell) (get_or roles cell NotOwned)
role_all p owners roles cell so_far =
    ⊎_elim (λ has. has) (λ none. rw none.0 (sym none.1 ∙ nobody (id_in p cell))) so_far
  where
    nobody : (o : Option ℕ) → option_and_then (owner_of []) o ≡ None
    nobody None = refl
    nobody (Some x) = refl

-- nothing is set at first
pub get_or-replicate_same : {X : Type 0} (n i : ℕ) (x : X) → get_or (replicate n x) i x ≡ x
get_or-replicate_same zero i x = refl
get_or-replicate_same (suc n) zero x = refl
get_or-replicate_same (suc n) (suc i) x = get_or-replicate_same n i x
