-- Steps of noting what was found, and of asking.
use Rattle.std.proofs.Common.{◌≡◌, ℕ, ◌+◌, ◌<◌, Bool, true, false, ◌||◌, ◌&&◌, ⊎_elim, List, [], ◌∷◌, ◌++◌, length, take, get_or, map, set, ap, sym, refl, subst, ◌∙◌, arith, eqb-true, eq-eqb}
use Rattle.std.specs.Prelude.{◌==◌, IsSome}
use Rattle.std.specs.List.{All}
use Rattle.std.proofs.lemmas.Bool.{cases_eq, ne_eqb, false≢true}
use Rattle.std.proofs.lemmas.List.{take_more, get_or-map, get_or-set_other}
use Rattle.std.proofs.lemmas.Grind.{get_or-set_at}
use Rattle.std.proofs.lemmas.List.Elements.{All-append, All-cons}
use Rattle.std.proofs.lemmas.List.Folds.{list_any-append}
use Rattle.graph_meaning.specs.declared.roles.OwnerRole.{OwnerRole}
use Rattle.graph_meaning.specs.declared.roles.OwnerRole.TheVariants.{NotOwned, OwnerCell, OwnerGone}
use Rattle.graph_meaning.specs.Reach.{has_id}
use Rattle.graph_meaning.specs.Roles.{RoleTable, owner_in}
use Rattle.graph_meaning.proofs.Membership.{has_id-append}
use Rattle.object_table.specs.Placed.{PlacedTable, id_in}
use Rattle.path_cert.specs.Finds.{finds_in}
use Rattle.verdict_list.specs.declared.settling.Ownership.{Ownership}
use Rattle.verdict_list.specs.Cells.{is_found_by, is_kept}
use Rattle.verdict_list.specs.Settling.{IsOfObjects, is_found_in, flag_of, Flags, OwneeNotes, HasAsked}

-- one more of them
pub has_id-more : (xs : List ℕ) (i x : ℕ) → i < length xs → has_id (take (i + 1) xs) x ≡ (has_id (take i xs) x || (get_or xs i 0 == x || false))
has_id-more xs i x within =
    ap (λ ys. has_id ys x) (take_more xs i 0 within) ∙ has_id-append (take i xs) (get_or xs i 0 ∷ []) x

or_true : (b : Bool) → (b || true) ≡ true
or_true true = refl
or_true false = refl

or_false : (b : Bool) → (b || false) ≡ b
or_false true = refl
or_false false = refl

-- a flag that is set
set-flag : (flags : List Bool) (y x : ℕ) → y < length flags → flag_of (set flags y true) x ≡ (flag_of flags x || (y == x))
set-flag flags y x within =
    ⊎_elim
    (λ (same : y ≡ x). get_or-set_at flags y x true false (sym same) within ∙ sym (ap (λ b. flag_of flags x || b) (eq-eqb y x same) ∙ or_true (flag_of flags x)))
    (λ other. get_or-set_other flags y x true false (λ same. other (sym same)) ∙ sym (ap (λ b. flag_of flags x || b) (ne_eqb y x other) ∙ or_false (flag_of flags x)))
    (cases_eq y x)

noted-found : (o a t e : Bool) → (e ≡ true → t ≡ true) → ((o || (a && t)) || e) ≡ (o || ((a || (e || false)) && t))
noted-found true a t e found = refl
noted-found false true true true found = refl
noted-found false true true false found = refl
noted-found false true false true found = absurd (false≢true (found refl))
noted-found false true false false found = refl
noted-found false false t true found = sym (found refl)
noted-found false false t false found = refl

noted-other : (o a t e : Bool) → (e ≡ true → t ≡ false) → (o || (a && t)) ≡ (o || ((a || (e || false)) && t))
noted-other true a t e other = refl
noted-other false true t e other = refl
noted-other false false t true other = sym (other refl)
noted-other false false t false other = refl

module _ (test : ℕ → Bool) (answers : List Bool) (ownees : List ℕ) (i : ℕ) (within : i < length ownees) (same : answers ≡ map test ownees)
    (old flags : List Bool) (x : ℕ) (was : flag_of flags x ≡ (flag_of old x || (has_id (take i ownees) x && test x))) where
  abbrev y : ℕ
  y = get_or ownees i 0

  answer : get_or answers i false ≡ test y
  answer = ap (λ bs. get_or bs i false) same ∙ get_or-map test ownees i 0 false within

  at_y : (b : Bool) → get_or answers i false ≡ b → (y == x) ≡ true → test x ≡ b
  at_y b is here = ap test (sym (eqb-true y x here)) ∙ sym answer ∙ is

  pub noted-one : y < length flags → get_or answers i false ≡ true → flag_of (set flags y true) x ≡ (flag_of old x || (has_id (take (i + 1) ownees) x && test x))
  noted-one room is =
      set-flag flags y x room
      ∙ ap (λ b. b || (y == x)) was
      ∙ noted-found (flag_of old x) (has_id (take i ownees) x) (test x) (y == x) (at_y true is)
      ∙ ap (λ b. flag_of old x || (b && test x)) (sym (has_id-more ownees i x within))

  pub noted-none : get_or answers i false ≡ false → flag_of flags x ≡ (flag_of old x || (has_id (take (i + 1) ownees) x && test x))
  noted-none is =
      was
      ∙ noted-other (flag_of old x) (has_id (take i ownees) x) (test x) (y == x) (at_y false is)
      ∙ ap (λ b. flag_of old x || (b && test x)) (sym (has_id-more ownees i x within))

-- ---- pairs

module _ (p : PlacedTable) (r : RoleTable) where
  -- one pair more
  pub found-more : (pairs : List Ownership) (o : Ownership) (x : ℕ) → is_found_in p r (pairs ++ o ∷ []) x ≡ (is_found_in p r pairs x || ((o.ownee == x && finds_in p r o.owner x) || false))
  found-more pairs o x = list_any-append (λ (q : Ownership). q.ownee == x && finds_in p r q.owner x) pairs (o ∷ [])

  pair-owned : (a k e f : Bool) → (e ≡ true → f ≡ k) → ((a && k) || ((e && f) || false)) ≡ ((a || (e || false)) && k)
  pair-owned true true e f same = refl
  pair-owned true false true true same = same refl
  pair-owned true false true false same = refl
  pair-owned true false false f same = refl
  pair-owned false k true true same = same refl
  pair-owned false k true false same = same refl
  pair-owned false k false f same = refl

  pair-none : (a k e : Bool) → (e ≡ true → k ≡ false) → (a && k) ≡ ((a || (e || false)) && k)
  pair-none true k e none = refl
  pair-none false k true none = sym (none refl)
  pair-none false k false none = refl

  -- an ownee with an owner that isn't gone gives a pair
  pub pairs-owned : (pairs : List Ownership) (ownees : List ℕ) (i owner x : ℕ) → i < length ownees →
      owner_in r (get_or ownees i 0) ≡ OwnerCell owner → is_found_in p r pairs x ≡ (has_id (take i ownees) x && is_kept p r x) →
      is_found_in p r (pairs ++ record { owner = owner; ownee = get_or ownees i 0 } ∷ []) x ≡ (has_id (take (i + 1) ownees) x && is_kept p r x)
  pairs-owned pairs ownees i owner x within role was =
      let y = get_or ownees i 0 in
      let o : Ownership = record { owner = owner; ownee = get_or ownees i 0 } in
      found-more pairs o x
      ∙ ap (λ b. b || ((y == x && finds_in p r owner x) || false)) was
      ∙ pair-owned (has_id (take i ownees) x) (is_kept p r x) (y == x) (finds_in p r owner x)
      (λ here. let same : y ≡ x = eqb-true y x here in sym (ap (is_found_by p r x) (sym (ap (owner_in r) same) ∙ role)))
      ∙ ap (λ b. b && is_kept p r x) (sym (has_id-more ownees i x within))

  no_cell : (role : OwnerRole) (x : ℕ) → ((owner : ℕ) → role ≡ OwnerCell owner → ⊥) → is_found_by p r x role ≡ false
  no_cell NotOwned x none = refl
  no_cell (OwnerCell owner) x none = absurd (none owner refl)
  no_cell (OwnerGone id) x none = refl

  -- another ownee gives none
  pub pairs-none : (pairs : List Ownership) (ownees : List ℕ) (i x : ℕ) → i < length ownees →
      ((owner : ℕ) → owner_in r (get_or ownees i 0) ≡ OwnerCell owner → ⊥) → is_found_in p r pairs x ≡ (has_id (take i ownees) x && is_kept p r x) →
      is_found_in p r pairs x ≡ (has_id (take (i + 1) ownees) x && is_kept p r x)
  pairs-none pairs ownees i x within none was =
      let y = get_or ownees i 0 in
      was
      ∙ pair-none (has_id (take i ownees) x) (is_kept p r x) (y == x) (λ here. let same : y ≡ x = eqb-true y x here in no_cell (owner_in r x) x (λ owner is. none owner (ap (owner_in r) same ∙ is)))
      ∙ ap (λ b. b && is_kept p r x) (sym (has_id-more ownees i x within))

  -- ---- asking

  asked-more : (g a e f : Bool) → (g || ((a || (e || false)) && f)) ≡ ((g || (a && f)) || ((e && f) || false))
  asked-more true a e f = refl
  asked-more false true e true = refl
  asked-more false true true false = refl
  asked-more false true false false = refl
  asked-more false false true true = refl
  asked-more false false true false = refl
  asked-more false false false f = refl

  -- one ownee more of the owner that is asked next
  pub asked-one : (flags : List Bool) (ownees : List ℕ) (pairs : List Ownership) (o : Ownership) (x : ℕ) →
      (flag_of flags x || (has_id ownees x && finds_in p r o.owner x)) ≡ is_found_in p r pairs x →
      (flag_of flags x || (has_id (ownees ++ o.ownee ∷ []) x && finds_in p r o.owner x)) ≡ is_found_in p r (pairs ++ o ∷ []) x
  asked-one flags ownees pairs o x was =
      ap (λ b. flag_of flags x || (b && finds_in p r o.owner x)) (has_id-append ownees (o.ownee ∷ []) x)
      ∙ asked-more (flag_of flags x) (has_id ownees x) (o.ownee == x) (finds_in p r o.owner x)
      ∙ ap (λ b. b || ((o.ownee == x && finds_in p r o.owner x) || false)) was
      ∙ sym (found-more pairs o x)

-- one pair more, of objects
pub objects-more : (p : PlacedTable) (pairs : List Ownership) (o : Ownership) → All (IsOfObjects p) pairs → IsOfObjects p o → All (IsOfObjects p) (pairs ++ o ∷ [])
objects-more p pairs o all held =
    All-append (IsOfObjects p) pairs (o ∷ []) all (All-cons (IsOfObjects p) o [] held (λ k d within. absurd (omega arith)))

-- one cell more that holds an object
pub held-more : (p : PlacedTable) (cells : List ℕ) (cell : ℕ) → All (λ c. IsSome (id_in p c)) cells → IsSome (id_in p cell) → All (λ c. IsSome (id_in p c)) (cells ++ cell ∷ [])
held-more p cells cell all held =
    All-append (λ c. IsSome (id_in p c)) cells (cell ∷ []) all (All-cons (λ c. IsSome (id_in p c)) cell [] held (λ k d within. absurd (omega arith)))

module _ (p : PlacedTable) (r : RoleTable) (pairs : List Ownership) (a : OwneeNotes) (asked : HasAsked p r pairs a) where
  -- the owner was asked
  pub asked-owner : (flags : List Bool) → length flags ≡ length a.found →
      Flags (λ x. has_id a.ownees x && finds_in p r a.owner x) a.found flags →
      HasAsked p r pairs (record { found = flags; owner = a.owner; ownees = [] })
  asked-owner flags each noted = record {
    each = each ∙ asked.each;
    owner = λ some. absurd (some refl);
    ownees = λ k d within. absurd (omega arith);
    found = λ x. or_false (flag_of flags x) ∙ noted x ∙ asked.found x;
  }

  -- the next one is that of another pair
  pub asked-next : (owner : ℕ) → a.ownees ≡ [] → HasAsked p r pairs (record { found = a.found; owner = owner; ownees = a.ownees })
  asked-next owner none = record {
    each = asked.each;
    owner = λ some. absurd (some none);
    ownees = asked.ownees;
    found = λ x.
        ap (λ ys. flag_of a.found x || (has_id ys x && finds_in p r owner x)) none
        ∙ sym (ap (λ ys. flag_of a.found x || (has_id ys x && finds_in p r a.owner x)) none)
        ∙ asked.found x;
  }

  -- no owner is asked any more
  pub asked-all : a.ownees ≡ [] → (x : ℕ) → flag_of a.found x ≡ is_found_in p r pairs x
  asked-all none x =
      sym (or_false (flag_of a.found x))
      ∙ sym (ap (λ ys. flag_of a.found x || (has_id ys x && finds_in p r a.owner x)) none)
      ∙ asked.found x

  -- one pair more of the owner that is asked next
  pub asked-pair : (o : Ownership) → a.owner ≡ o.owner → IsOfObjects p o → HasAsked p r (pairs ++ o ∷ []) (record { found = a.found; owner = a.owner; ownees = a.ownees ++ o.ownee ∷ [] })
  asked-pair o same held = record {
    each = asked.each;
    owner = λ some. subst (λ y. IsSome (id_in p y)) (sym same) held.0;
    ownees = held-more p a.ownees o.ownee asked.ownees held.1;
    found = λ x. subst (λ y. (flag_of a.found x || (has_id (a.ownees ++ o.ownee ∷ []) x && finds_in p r y x)) ≡ is_found_in p r (pairs ++ o ∷ []) x) (sym same)
        (asked-one p r a.found a.ownees pairs o x (subst (λ y. (flag_of a.found x || (has_id a.ownees x && finds_in p r y x)) ≡ is_found_in p r pairs x) same (asked.found x)));
  }

-- the same of slices that have these items
pub noted-slices : (old slice : List Bool) (ownees asked : List ℕ) (test : List ℕ → ℕ → Bool) (new : List Bool) → slice ≡ old → asked ≡ ownees →
    Flags (test asked) slice new → Flags (test ownees) old new
noted-slices old slice ownees asked test new same of noted =
    subst (λ xs. Flags (test ownees) xs new) same (subst (λ xs. Flags (test xs) slice new) of noted)
