-- Owners by assertion, as a list of pairs of an ownee and its owner.
use Rattle.std.proofs.Common.{◌≡◌, ◌≢◌, ℕ, ◌<◌, Bool, true, false, cond, ⊎_elim, List, [], ◌∷◌, Some, sym, ap, subst, refl, ◌∙◌, arith, eqb-true, eq-eqb}
use Rattle.std.specs.Prelude.{◌==◌}
use Rattle.std.specs.List.{All}
use Rattle.std.specs.Map.{keys_of, values_of}
use Rattle.std.specs.BTreeMap.{insert_entry, is_at}
use Rattle.std.specs.Ordering.{nat_cmp, match_ordering}
use Rattle.std.specs.declared.cmp.Ordering.{Ordering}
use Rattle.std.specs.declared.cmp.Ordering.TheVariants.{Less, Equal, Greater}
use Rattle.std.proofs.lemmas.Bool.{false≢true, or_cases, or_left, or_right}
use Rattle.std.proofs.lemmas.Bool.Decides.{nat_tests}
use Rattle.std.proofs.lemmas.List.Elements.{All-cons, All-head, All-tail}
use Rattle.graph_meaning.specs.Reach.{has_id}
use Rattle.graph_meaning.proofs.Membership.{has_id-head}
use Rattle.assert_registry.specs.Assertions.{owner_of}
use Rattle.assert_registry.proofs.Rising.{Rise, Rise-head, Rise-tail}

pub nat_cmp-Equal : (x y : ℕ) → nat_cmp x y ≡ Equal → x ≡ y
nat_cmp-Equal x y same = grind (arith, nat_tests)

-- no object is its own owner
abbrev pub IsByAnother : ℕ × ℕ → Type 0
IsByAnother o = o.1 ≢ o.0

-- one more owner
pub others-insert_entry : (owners : List (ℕ × ℕ)) (ownee owner : ℕ) → owner ≢ ownee → All IsByAnother owners → All IsByAnother (insert_entry nat_cmp owners ownee owner)
others-insert_entry [] ownee owner other all = All-cons IsByAnother (ownee, owner) [] other all
others-insert_entry (o ∷ owners) ownee owner other all =
    go (nat_cmp ownee o.0) refl (others-insert_entry owners ownee owner other (All-tail IsByAnother o owners all))
  where
    go : (c : Ordering) → nat_cmp ownee o.0 ≡ c → All IsByAnother (insert_entry nat_cmp owners ownee owner) →
        All IsByAnother (match_ordering c ((ownee, owner) ∷ o ∷ owners) ((o.0, owner) ∷ owners) (o ∷ insert_entry nat_cmp owners ownee owner))
    go Less is rest = All-cons IsByAnother (ownee, owner) (o ∷ owners) other all
    go Equal is rest =
        All-cons IsByAnother (o.0, owner) owners (λ e. other (e ∙ sym (nat_cmp-Equal ownee o.0 is))) (All-tail IsByAnother o owners all)
    go Greater is rest =
        All-cons IsByAnother o (insert_entry nat_cmp owners ownee owner) (All-head IsByAnother o owners all) rest

-- a query finds no other id
pub is_at-other : (x y : ℕ) → x ≢ y → is_at (nat_cmp x) y ≡ false
is_at-other x y ne = grind (arith, nat_tests)

-- a query finds the id itself
pub is_at-itself : (x : ℕ) → is_at (nat_cmp x) x ≡ true
is_at-itself x = grind (arith, nat_tests)

is_at-true : (x y : ℕ) → is_at (nat_cmp x) y ≡ true → x ≡ y
is_at-true x y same = grind (arith, nat_tests)

-- What holds of each pair holds of an ownee and its owner.
pub All-owner_of : (P : ℕ × ℕ → Type 0) (owners : List (ℕ × ℕ)) (ownee owner : ℕ) → All P owners → owner_of owners ownee ≡ Some owner → P (ownee, owner)
All-owner_of P [] ownee owner all found = cc
All-owner_of P (o ∷ owners) ownee owner all found =
    go (is_at (nat_cmp ownee) o.0) refl found (λ later. All-owner_of P owners ownee owner (All-tail P o owners all) later)
  where
    go : (b : Bool) → is_at (nat_cmp ownee) o.0 ≡ b → cond b (Some o.1) (owner_of owners ownee) ≡ Some owner → (owner_of owners ownee ≡ Some owner → P (ownee, owner)) → P (ownee, owner)
    go true is found rest =
        let same : o.0 ≡ ownee = sym (is_at-true ownee o.0 is) in
        let by : o.1 ≡ owner = cc in
        subst (λ (x : ℕ). P (x, owner)) same (subst (λ (y : ℕ). P (o.0, y)) by (All-head P o owners all))
    go false is found rest = rest found

-- an owner that a look-up finds stands among the owners
pub has_id-owner_of : (owners : List (ℕ × ℕ)) (ownee owner : ℕ) → owner_of owners ownee ≡ Some owner → has_id (values_of owners) owner ≡ true
has_id-owner_of [] ownee owner found = cc
has_id-owner_of (o ∷ owners) ownee owner found =
    go (is_at (nat_cmp ownee) o.0) found (λ later. or_right (o.1 == owner) (has_id (values_of owners) owner) (has_id-owner_of owners ownee owner later))
  where
    go : (b : Bool) → cond b (Some o.1) (owner_of owners ownee) ≡ Some owner →
        (owner_of owners ownee ≡ Some owner → has_id (values_of (o ∷ owners)) owner ≡ true) → has_id (values_of (o ∷ owners)) owner ≡ true
    go true found rest = let by : o.1 ≡ owner = cc in or_left _ _ (eq-eqb o.1 owner by)
    go false found rest = rest found

-- and each of the owners is that of some ownee
pub owner_of-has_id : (owners : List (ℕ × ℕ)) (owner : ℕ) → Rise (keys_of owners) → has_id (values_of owners) owner ≡ true →
    (ownee : ℕ) × (has_id (keys_of owners) ownee ≡ true) × (owner_of owners ownee ≡ Some owner)
owner_of-has_id [] owner rise at = absurd (false≢true at)
owner_of-has_id (o ∷ owners) owner rise at =
    ⊎_elim
    (λ here. (o.0, has_id-head (keys_of owners) o.0, rw (is_at-itself o.0) (ap Some (eqb-true o.1 owner here))))
    (λ later.
    let (ownee, among, found) = owner_of-has_id owners owner (Rise-tail o.0 (keys_of owners) rise) later in
    let above : o.0 < ownee = Rise-head o.0 (keys_of owners) rise ownee among in
    let apart : ownee ≢ o.0 = omega arith in
    (ownee, or_right _ _ among, rw (is_at-other ownee o.0 apart) found))
    (or_cases _ _ at)
