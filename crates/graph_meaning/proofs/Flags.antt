-- What is kept of each cell whether it is an owner or an ownee, and flags.
use Rattle.std.proofs.Common.{◌≡◌, ◌≢◌, ℕ, zero, suc, ◌+◌, ◌<◌, Bool, true, false, ◌||◌, ⊎_elim, List, [], ◌∷◌, ◌++◌, length, replicate, get_or, set, sym, refl, ap, subst, ◌∙◌, arith, eq-eqb}
use Rattle.std.specs.Prelude.{sum_by}
use Rattle.std.proofs.lemmas.Bool.{cases_eq, ne_eqb, or_right}
use Rattle.std.proofs.lemmas.List.{length-append, length-set, get_or-set_same, get_or-set_other}
use Rattle.std.proofs.lemmas.List.Folds.{list_any_at}
use Rattle.std.proofs.lemmas.List.Sums.{sum_by-set, sum_by-le}
use Rattle.heap_base.specs.Counting.{bit}
use Rattle.heap_base.proofs.Counting.{bit-le}
use Rattle.graph_meaning.specs.Reach.{has_id}
use Rattle.graph_meaning.specs.declared.roles.Border.{Border}
use Rattle.graph_meaning.specs.declared.roles.OwnerRole.{OwnerRole}
use Rattle.graph_meaning.specs.declared.roles.OwnerRole.TheVariants.{NotOwned}
use Rattle.graph_meaning.specs.Roles.{has_owner}
use Rattle.graph_meaning.specs.Owners.{HaveBorders, neither, border_by, is_any_set}
use Rattle.graph_meaning.proofs.Membership.{has_id-append}

-- one for each cell that is said to be an owner
abbrev pub owner_bit : Border → ℕ
owner_bit b = bit b.owner

-- ---- one owner more

module _ (borders : List Border) (ownees : List OwnerRole) (owners : List ℕ) (cell : ℕ) (have : HaveBorders borders ownees owners)
    (within : cell < length borders) (new : has_id owners cell ≡ false) where
  module _ (b : Border) (is : b ≡ record { owner = true; ownee = has_owner (get_or ownees cell NotOwned) }) where
    one_more : sum_by owner_bit (set borders cell b) ≡ sum_by owner_bit borders + 1
    one_more =
        let before : owner_bit (get_or borders cell neither) ≡ 0 = ap owner_bit (have.each cell within) ∙ ap bit new in
        let after : owner_bit b ≡ 1 = ap owner_bit is in
        let e = sum_by-set owner_bit borders cell b neither within in
        omega arith

    other_owner : (x : ℕ) → x ≢ cell → has_id owners x ≡ has_id (owners ++ cell ∷ []) x
    other_owner x ne =
        let alone : has_id (cell ∷ []) x ≡ false = rw (ne_eqb cell x (λ e. ne (sym e))) refl in
        sym (has_id-append owners (cell ∷ []) x ∙ ap (λ b. has_id owners x || b) alone ∙ or_none (has_id owners x))
      where
        or_none : (b : Bool) → (b || false) ≡ b
        or_none true = refl
        or_none false = refl

    this_owner : true ≡ has_id (owners ++ cell ∷ []) cell
    this_owner = sym (has_id-append owners (cell ∷ []) cell ∙ or_right (has_id owners cell) (has_id (cell ∷ []) cell) (ap (λ b. b || false) (eq-eqb cell cell refl)))

    same_border : (x : ℕ) → x ≡ cell → get_or (set borders cell b) x neither ≡ border_by (get_or ownees x NotOwned) (owners ++ cell ∷ []) x
    same_border x e =
        subst (λ y. get_or (set borders cell b) y neither ≡ border_by (get_or ownees y NotOwned) (owners ++ cell ∷ []) y) (sym e)
        (get_or-set_same borders cell b neither within ∙ is ∙ ap (λ (o : Bool). let it : Border = record { owner = o; ownee = has_owner (get_or ownees cell NotOwned) } in it) this_owner)

    other_border : (x : ℕ) → x < length (set borders cell b) → x ≢ cell → get_or (set borders cell b) x neither ≡ border_by (get_or ownees x NotOwned) (owners ++ cell ∷ []) x
    other_border x inside ne =
        let same = length-set borders cell b in
        let before : x < length borders = omega arith in
        get_or-set_other borders cell x b neither ne ∙ have.each x before
        ∙ ap (λ (o : Bool). let it : Border = record { owner = o; ownee = has_owner (get_or ownees x NotOwned) } in it) (other_owner x ne)

    more_owners : length (owners ++ cell ∷ []) ≡ sum_by owner_bit (set borders cell b)
    more_owners = let e = length-append owners (cell ∷ []) in let more = one_more in let many = have.many in omega arith

    pub HaveBorders-add : HaveBorders (set borders cell b) ownees (owners ++ cell ∷ [])
    HaveBorders-add = record {
      each = λ x inside. ⊎_elim (same_border x) (other_border x inside) (cases_eq x cell);
      many = more_owners;
    }

  -- there are fewer owners than cells
  pub owners_few : length owners < length borders
  owners_few =
      let b : Border = record { owner = true; ownee = has_owner (get_or ownees cell NotOwned) } in
      let e = sum_by-le owner_bit 1 (set borders cell b) (λ k d inside. bit-le (get_or (set borders cell b) k d).owner) in
      let many = have.many in
      let more = one_more b refl in
      let same = length-set borders cell b in
      omega arith

-- ---- whether a flag is set

pub none_set : (many : ℕ) → is_any_set (replicate many false) ≡ false
none_set zero = refl
none_set (suc many) = none_set many

pub one_set : (flags : List Bool) (place : ℕ) → place < length flags → is_any_set (set flags place true) ≡ true
one_set flags place within =
    list_any_at (λ flag. flag) (set flags place true) place false (let e = length-set flags place true in omega (arith, e, within)) (get_or-set_same flags place true false within)
