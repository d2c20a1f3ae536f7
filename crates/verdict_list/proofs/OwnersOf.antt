-- The owner of an ownee, where each ownee has one.
use Rattle.std.proofs.Common.{◌≡◌, ◌≢◌, ℕ, ◌<◌, Bool, true, false, cond, ◌&&◌, ⊎_elim, List, [], ◌∷◌, get_or, map, filter, IsTrue, Option, None, Some, ap, sym, refl, subst, ◌∙◌, arith, eqb-true}
use Rattle.std.specs.Prelude.{◌==◌}
use Rattle.std.specs.BTreeMap.{is_at}
use Rattle.std.specs.List.{All, list_any}
use Rattle.std.specs.Map.{keys_of}
use Rattle.std.specs.Option.{is_some, option_and_then, option_map_or}
use Rattle.std.specs.Ordering.{nat_cmp}
use Rattle.std.proofs.lemmas.Bool.{false≢true, or_cases}
use Rattle.std.proofs.lemmas.Bool.Decides.{nat_tests}
use Rattle.std.proofs.lemmas.List.Elements.{All-cons}
use Rattle.std.proofs.lemmas.List.Kept.{AllPairs-filter}
use Rattle.std.proofs.lemmas.Map.Made.{is_some-lookup}
use Rattle.graph_meaning.specs.declared.roles.OwnerRole.{OwnerRole}
use Rattle.graph_meaning.specs.declared.roles.OwnerRole.TheVariants.{NotOwned, OwnerCell, OwnerGone}
use Rattle.graph_meaning.specs.Heap.{Heap}
use Rattle.graph_meaning.specs.Reach.{has_id}
use Rattle.graph_meaning.specs.Roles.{RoleTable, owner_in, has_owner}
use Rattle.object_table.specs.Placed.{PlacedTable, id_in}
use Rattle.graph_meaning.proofs.Membership.{has_id-filter, filter_agree_all, map-filter, list_any_agree}
use Rattle.assert_registry.specs.Assertions.{owner_of}
use Rattle.assert_registry.specs.ByCell.{IsRoleBy}
use Rattle.assert_registry.specs.Laws.{StandFor}
use Rattle.assert_registry.proofs.Owners.{is_at-itself, is_at-other}
use Rattle.assert_registry.proofs.Rising.{Rise, Rise-head, Rise-tail, same_rising}
use Rattle.assert_registry.proofs.RolesOfTable.{and_parts}

-- the role of an object says whether it has an owner
role-says : (p : PlacedTable) (o : Option ℕ) (role : OwnerRole) → IsRoleBy p o role → has_owner role ≡ is_some o
role-says p None NotOwned says = refl
role-says p None (OwnerCell c) says = absurd (false≢true says.0)
role-says p None (OwnerGone gone) says = let e : None ≡ Some gone = says.0 in cc
role-says p (Some owner) NotOwned says = cc
role-says p (Some owner) (OwnerCell c) says = refl
role-says p (Some owner) (OwnerGone gone) says = refl

-- the object in a cell is an ownee by its role exactly where the heap says so
pub owned-by_role : (p : PlacedTable) (r : RoleTable) (h : Heap) → StandFor p r h → (cell id : ℕ) → id_in p cell ≡ Some id → has_owner (owner_in r cell) ≡ is_some (owner_of h.owners id)
owned-by_role p r h stand cell id held =
    role-says p (owner_of h.owners id) (owner_in r cell) (subst (λ o. IsRoleBy p o (owner_in r cell)) (ap (option_and_then (owner_of h.owners)) held) (stand.ownees cell))

-- an ownee is one whose owner a look-up finds
pub ownee-found : (owners : List (ℕ × ℕ)) (id : ℕ) → has_id (keys_of owners) id ≡ is_some (owner_of owners id)
ownee-found owners id =
    list_any_agree (λ x. x == id) (is_at (nat_cmp id)) (λ x. same_test x id) (keys_of owners) ∙ sym (is_some-lookup (is_at (nat_cmp id)) owners)
  where
    same_test : (x y : ℕ) → (x == y) ≡ is_at (nat_cmp y) x
    same_test x y = grind (arith, nat_tests)

-- the owner of a pair is the one that a look-up finds
pub owner-of_pair : (owners : List (ℕ × ℕ)) → Rise (keys_of owners) → (id owner : ℕ) → list_any (λ o. o.0 == id && o.1 == owner) owners ≡ true → owner_of owners id ≡ Some owner
owner-of_pair [] rise id owner at = absurd (false≢true at)
owner-of_pair (o ∷ owners) rise id owner at =
    ⊎_elim
    (λ here.
    let both = and_parts _ _ here in
    let first : o.0 ≡ id = eqb-true o.0 id both.0 in
    let by : o.1 ≡ owner = eqb-true o.1 owner both.1 in
    ap (λ b. cond b (Some o.1) (owner_of owners id)) (ap (is_at (nat_cmp id)) first ∙ is_at-itself id) ∙ ap Some by)
    (λ later.
    let found = owner-of_pair owners (Rise-tail o.0 (keys_of owners) rise) id owner later in
    let above : o.0 < id = Rise-head o.0 (keys_of owners) rise id (ownee-found owners id ∙ ap is_some found) in
    let apart : id ≢ o.0 = omega arith in
    ap (λ b. cond b (Some o.1) (owner_of owners id)) (is_at-other id o.0 apart) ∙ found)
    (or_cases _ _ at)

-- each pair has the owner of its ownee
pub All-owner_of_pair : (owners : List (ℕ × ℕ)) → Rise (keys_of owners) → All (λ o. owner_of owners o.0 ≡ Some o.1) owners
All-owner_of_pair [] rise = λ k d within. absurd (omega arith)
All-owner_of_pair (o ∷ owners) rise =
    All-cons (λ q. owner_of (o ∷ owners) q.0 ≡ Some q.1) o owners
    (ap (λ b. cond b (Some o.1) (owner_of owners o.0)) (is_at-itself o.0))
    (λ k d within.
    let q = get_or owners k d in
    let found : owner_of owners (get_or owners k d).0 ≡ Some (get_or owners k d).1 = All-owner_of_pair owners (Rise-tail o.0 (keys_of owners) rise) k d within in
    let above : o.0 < (get_or owners k d).0 = Rise-head o.0 (keys_of owners) rise (get_or owners k d).0 (ownee-found owners (get_or owners k d).0 ∙ ap is_some found) in
    let apart : (get_or owners k d).0 ≢ o.0 = omega arith in
    ap (λ b. cond b (Some o.1) (owner_of owners q.0)) (is_at-other q.0 o.0 apart) ∙ found)

-- the owner of an ownee passes the test of the two
abbrev pub passes_with_owner : (ℕ → ℕ → Bool) → List (ℕ × ℕ) → ℕ → Bool
passes_with_owner test owners id = option_map_or (test id) (owner_of owners id) false

-- The ownees of the pairs that pass a test are those of these ids that pass it, where the ids rise and have all ownees.
pub ownees-by_id : (test : ℕ → ℕ → Bool) (owners : List (ℕ × ℕ)) (ids : List ℕ) → Rise (keys_of owners) → Rise ids →
    ((id : ℕ) → IsTrue (has_id (keys_of owners) id) → IsTrue (has_id ids id)) →
    map (λ o. o.0) (filter (λ o. test o.0 o.1) owners) ≡ filter (passes_with_owner test owners) ids
ownees-by_id test owners ids rise rise_ids among =
    ap (map (λ o. o.0))
    (filter_agree_all (λ o. test o.0 o.1) (λ o. passes o.0) owners
    (λ k d within. sym (ap (λ o. option_map_or (test (get_or owners k d).0) o false) (All-owner_of_pair owners rise k d within))))
    ∙ map-filter passes (λ (o : ℕ × ℕ). o.0) owners
    ∙ same_rising (filter passes (keys_of owners)) (filter passes ids) (AllPairs-filter (λ x y. x < y) passes (keys_of owners) rise) (AllPairs-filter (λ x y. x < y) passes ids rise_ids)
    (λ y. has_id-filter passes (keys_of owners) y
    ∙ both (passes y) (has_id (keys_of owners) y) (has_id ids y) (λ at. ownee-found owners y ∙ some (owner_of owners y) y at) (among y)
    ∙ sym (has_id-filter passes ids y))
  where
    passes : ℕ → Bool
    passes id = passes_with_owner test owners id

    some : (o : Option ℕ) (y : ℕ) → option_map_or (test y) o false ≡ true → is_some o ≡ true
    some None y at = at
    some (Some owner) y at = refl

    both : (a k i : Bool) → (a ≡ true → k ≡ true) → (k ≡ true → i ≡ true) → (a && k) ≡ (a && i)
    both false k i owned live = refl
    both true k i owned live = owned refl ∙ sym (live (owned refl))
