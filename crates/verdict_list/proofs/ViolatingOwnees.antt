-- Which ownees violate, by cells and by ids.
use Rattle.std.proofs.Common.{◌≡◌, ℕ, Bool, true, false, cond, not, ◌||◌, ◌&&◌, ⊎_elim, List, [], ◌∷◌, get_or, map, filter, IsTrue, Option, None, Some, ap, sym, refl, subst, ◌∙◌, eqb-true}
use Rattle.std.specs.Prelude.{IsSome, IsSomeAnd, IfSome}
use Rattle.std.specs.List.{All}
use Rattle.std.specs.Map.{keys_of}
use Rattle.std.specs.Option.{is_some, option_and_then, option_map_or}
use Rattle.std.proofs.lemmas.Bool.{false≢true, false_from_ne_true, or_cases}
use Rattle.std.proofs.lemmas.List.Elements.{All-filter}
use Rattle.graph_meaning.specs.declared.roles.OwnerRole.{OwnerRole}
use Rattle.graph_meaning.specs.declared.roles.OwnerRole.TheVariants.{NotOwned, OwnerCell, OwnerGone}
use Rattle.graph_meaning.specs.Heap.{Heap, Object, ids, is_live, edges_of, object_at}
use Rattle.graph_meaning.specs.Reach.{has_id}
use Rattle.graph_meaning.specs.Assertions.{is_met, finds}
use Rattle.graph_meaning.specs.Collecting.{is_gone, violating_ownees}
use Rattle.graph_meaning.specs.Roles.{RoleTable, owner_in, id_at}
use Rattle.graph_meaning.proofs.ByPaths.{finds_by_path}
use Rattle.graph_meaning.proofs.HeapLemmas.{has_id-ids}
use Rattle.graph_meaning.proofs.Membership.{All-has_id, filter_agree_all}
use Rattle.object_table.specs.Placed.{PlacedTable, IsPlaced, id_in}
use Rattle.assert_registry.specs.Assertions.{owner_of}
use Rattle.assert_registry.specs.ByCell.{IsRoleBy}
use Rattle.assert_registry.specs.Laws.{StandFor}
use Rattle.assert_registry.proofs.Rising.{Rise, Rise-sorted}
use Rattle.path_cert.specs.Cells.{by_id}
use Rattle.path_cert.specs.Levels.{LevelTable, AreLevelsOf, AreLevelsIn, level_in}
use Rattle.path_cert.proofs.ByIds.{by_id-held}
use Rattle.path_cert.proofs.HeldObjects.{id-held, held-id}
use Rattle.path_cert.proofs.Rounds.{index-of}
use Rattle.verdict_list.specs.Cells.{cells_by_id, is_found_by, is_kept}
use Rattle.verdict_list.specs.Ownership.{OwnershipTable, AreDoubts, AreViolating, unowned_search}
use Rattle.verdict_list.proofs.CellsById.{cells-held, ids-filter}
use Rattle.verdict_list.proofs.Owned.{AgreeByIds, agree-by-ids}
use Rattle.verdict_list.proofs.OwnersOf.{ownee-found, passes_with_owner, ownees-by_id}

-- what holds of all of a list, at an element
All-at : (P : ℕ → Type 0) (xs : List ℕ) → All P xs → (x : ℕ) → IsTrue (has_id xs x) → P x
All-at P xs all x at = (let is = index-of xs x at in subst P is.2 (all is.0 0 is.1))

-- an object that isn't live finds nothing
nothing-found : (h : Heap) (x y : ℕ) → is_live h.table x ≡ false → finds h x y ≡ false
nothing-found h x y gone =
    false_from_ne_true (finds h x y) (λ at. let way = (finds_by_path h x y).0 at in no_edge (object_at h.table.objects x) way.0 gone way.2.0)
  where
    no_edge : (o : Option Object) (z : ℕ) → is_some o ≡ false → IsTrue (has_id (map (λ e. e.1) (option_map_or (λ (o : Object). edges_of o.slots) o [])) z) → ⊥
    no_edge None z gone at = false≢true at
    no_edge (Some o) z gone at = false≢true (sym gone)

-- the ownee is met, and its owner is gone or doesn't find it
abbrev violates : Heap → ℕ → ℕ → Bool
violates h id owner = is_met h id && (is_gone h owner || not (finds h owner id))

-- an ownee in doubt, by whether it is met and found: what is met and not found is in doubt
settled : (doubted met found : Bool) → (met ≡ true → found ≡ false → doubted ≡ true) → (doubted && (met && not found)) ≡ (met && not found)
settled true met found lost = refl
settled false false found lost = refl
settled false true false lost = absurd (false≢true (lost refl refl))
settled false true true lost = refl

-- a filter of a filter
pub filter-both : (p q : ℕ → Bool) (xs : List ℕ) → filter q (filter p xs) ≡ filter (λ x. p x && q x) xs
filter-both p q [] = refl
filter-both p q (x ∷ xs) = go (p x) (filter-both p q xs)
  where
    go : (b : Bool) → filter q (filter p xs) ≡ filter (λ y. p y && q y) xs →
        filter q (cond b (x ∷ filter p xs) (filter p xs)) ≡ cond (b && q x) (x ∷ filter (λ y. p y && q y) xs) (filter (λ y. p y && q y) xs)
    go true rest = ap (λ ys. cond (q x) (x ∷ ys) ys) rest
    go false rest = rest

some_after : (xs : List (ℕ × ℕ)) → map Some (map (λ o. o.0) xs) ≡ map (λ o. Some o.0) xs
some_after [] = refl
some_after (x ∷ xs) = ap (λ ys. Some x.0 ∷ ys) (some_after xs)

-- the doubtful ones are objects
pub doubts-held : (p : PlacedTable) → IsPlaced p → (test : ℕ → Bool) (doubts : List ℕ) → doubts ≡ filter test (cells_by_id p) → All (λ cell. IsSome (id_in p cell)) doubts
doubts-held p placed test doubts are =
    subst (All (λ cell. IsSome (id_in p cell))) (sym are) (All-filter test (λ cell. IsSome (id_in p cell)) (cells_by_id p) (cells-held p placed))

module _ (p : PlacedTable) (r : RoleTable) (h : Heap) (placed : IsPlaced p) (stand : StandFor p r h) (doubts : List ℕ) (are : AreDoubts p h doubts) where
  abbrev by : AgreeByIds p r h
  by = agree-by-ids p r h placed stand

  abbrev doubt : ℕ → Bool
  doubt cell = are.test cell

  rise : Rise (keys_of h.owners)
  rise = Rise-sorted (keys_of h.owners) stand.ordered.owners

  module _ (cell id : ℕ) (held : id_in p cell ≡ Some id) where
    role_by : IsRoleBy p (owner_of h.owners id) (owner_in r cell)
    role_by = subst (λ o. IsRoleBy p o (owner_in r cell)) (ap (option_and_then (owner_of h.owners)) held) (stand.ownees cell)

    not_in_doubt : owner_of h.owners id ≡ None → doubt cell ≡ false
    not_in_doubt unowned = false_from_ne_true (doubt cell) (λ doubted. false≢true (sym (ap is_some unowned) ∙ sym (ownee-found h.owners id) ∙ are.ownees cell id held doubted))

    by_role : (o : Option ℕ) (role : OwnerRole) → owner_of h.owners id ≡ o → IsRoleBy p o role →
        (doubt cell && (is_met h id && not (is_found_by p r cell role))) ≡ option_map_or (violates h id) o false
    by_role None NotOwned owned says = ap (λ b. b && (is_met h id && true)) (not_in_doubt owned)
    by_role None (OwnerCell c) owned says = absurd (false≢true says.0)
    by_role None (OwnerGone gone) owned says = let e : None ≡ Some gone = says.0 in cc
    by_role (Some owner) NotOwned owned says = cc
    by_role (Some owner) (OwnerCell c) owned says =
        let live : is_live h.table owner ≡ true = ap (λ t. is_live t owner) stand.table ∙ placed.live c owner says.1 in
        let found = by.finds c cell owner id says.1 held in
        ap (λ b. doubt cell && (is_met h id && not b)) found
        ∙ settled (doubt cell) (is_met h id) (finds h owner id) (are.lost cell id owner held owned)
        ∙ sym (ap (λ b. is_met h id && (not b || not (finds h owner id))) live)
    by_role (Some owner) (OwnerGone gone) owned says =
        let e : Some owner ≡ Some gone = says.0 in
        let same : owner ≡ gone = cc in
        let dead : is_live h.table owner ≡ false = ap (λ t. is_live t owner) stand.table ∙ ap (is_live p.table) same ∙ says.1 in
        settled (doubt cell) (is_met h id) false (λ met none. are.lost cell id owner held owned met (nothing-found h owner id dead))
        ∙ sym (ap (λ b. is_met h id && (not b || not (finds h owner id))) dead)

    -- An ownee violates where it is in doubt and met, and its owner, if it isn't gone, doesn't find it.
    violating-cell : (doubt cell && (is_met h id && not (is_kept p r cell))) ≡ passes_with_owner (violates h) h.owners id
    violating-cell = by_role (owner_of h.owners id) (owner_in r cell) refl role_by

  -- whether the ownee in a cell is met, and not found by an owner that isn't gone
  abbrev fails : ℕ → Bool
  fails cell = is_met h (id_at p.cells cell) && not (is_kept p r cell)

  -- The violating ownees are those in doubt that fail.
  violating-ids : Rise (ids p.table) → map (id_in p) (filter fails (filter doubt (cells_by_id p))) ≡ map (λ o. Some o.0) (violating_ownees h)
  unfolding violating_ownees
  violating-ids rise_ids =
      let test = λ (cell : ℕ). doubt cell && fails cell in
      ap (map (id_in p)) (filter-both doubt fails (cells_by_id p))
      ∙ ids-filter p placed test
      ∙ ap (map Some) (filter_agree_all (by_id p test) (passes_with_owner (violates h) h.owners) (ids p.table) (λ k d within.
      let x = get_or (ids p.table) k d in
      let live = sym (has_id-ids p.table (get_or (ids p.table) k d)) ∙ All-has_id (ids p.table) k d within in
      let there = placed.somewhere (get_or (ids p.table) k d) live in
      by_id-held p placed test there.0 x there.1 ∙ ap (λ y. doubt there.0 && (is_met h y && not (is_kept p r there.0))) (id-held p there.0 x there.1) ∙ violating-cell there.0 x there.1))
      ∙ sym
      (ap (map Some)
      (ownees-by_id (violates h) h.owners (ids p.table) rise rise_ids
      (λ id at. has_id-ids p.table id ∙ sym (ap (λ t. is_live t id) stand.table)
      ∙ All-at (λ y. IsTrue (is_live h.table y)) (keys_of h.owners) stand.refers.ownees id at)))
      ∙ some_after (filter (λ o. violates h o.0 o.1) h.owners)

  -- where none is in doubt, none violates
  pub none-violating : Rise (ids p.table) → doubts ≡ [] → map (id_in p) doubts ≡ map (λ o. Some o.0) (violating_ownees h)
  none-violating rise_ids none =
      ap (map (id_in p)) none
      ∙ ap (λ xs. map (id_in p) (filter fails xs)) (sym none ∙ are.listed)
      ∙ violating-ids rise_ids

  -- those in doubt that have a level, and that are not found, violate
  pub some-violating : Rise (ids p.table) → (l : LevelTable) → AreLevelsOf p (unowned_search h) l → (met ownees : List ℕ) →
      met ≡ filter (λ x. is_some (level_in l x)) doubts → ownees ≡ filter (λ x. not (is_kept p r x)) met →
      map (id_in p) ownees ≡ map (λ o. Some o.0) (violating_ownees h)
  some-violating rise_ids l levels met ownees are_met are_ownees =
      let has_level = λ (x : ℕ). is_some (level_in l x) in
      let unfound = λ (x : ℕ). not (is_kept p r x) in
      ap (map (id_in p)) (are_ownees ∙ ap (filter unfound) are_met ∙ filter-both has_level unfound doubts ∙ filter_agree_all (λ x. has_level x && unfound x) fails doubts (λ k d within.
      let x = get_or doubts k d in
      let held = held-id p x (doubts-held p placed are.test doubts are.listed k d within) in
      ap (λ b. b && unfound x) (by.met l levels x (id_at p.cells x) held)))
      ∙ ap (λ xs. map (id_in p) (filter fails xs)) are.listed
      ∙ violating-ids rise_ids

-- what is listed stands in a cell
pub listed-held : (f : ℕ → Option ℕ) (cells : List ℕ) (xs : List (ℕ × ℕ)) → map f cells ≡ map (λ o. Some o.0) xs → (cell : ℕ) → IsTrue (has_id cells cell) → IsSome (f cell)
listed-held f [] xs same cell at = absurd (false≢true at)
listed-held f (c ∷ cells) [] same cell at = cc
listed-held f (c ∷ cells) (x ∷ xs) same cell at =
    let first : f c ≡ Some x.0 = cc in
    let others : map f cells ≡ map (λ o. Some o.0) xs = cc in
    ⊎_elim
    (λ here. ap is_some (ap f (sym (eqb-true c cell here)) ∙ first))
    (λ later. listed-held f cells xs others cell later)
    (or_cases _ _ at)

-- levels of one search are levels
pub levels-in : (p : PlacedTable) (h : Heap) (levels : Option LevelTable) → IfSome levels (AreLevelsOf p (unowned_search h)) → IfSome levels (AreLevelsIn p)
levels-in p h None are = tt
levels-in p h (Some l) are = (unowned_search h, are)

-- where an ownee violates, levels were made
pub levels-made : (p : PlacedTable) (h : Heap) (c : OwnershipTable) → AreViolating p h c → (ownee : ℕ) → IsTrue (has_id c.ownees ownee) → IsSomeAnd c.levels (AreLevelsOf p (unowned_search h))
levels-made p h c are ownee listed =
    go c.levels are.levels (are.made (λ none. false≢true (sym (ap (λ xs. has_id xs ownee) none) ∙ listed)))
  where
    go : (levels : Option LevelTable) → IfSome levels (AreLevelsOf p (unowned_search h)) → IsSome levels → IsSomeAnd levels (AreLevelsOf p (unowned_search h))
    go None are made = absurd (false≢true made)
    go (Some l) are made = are
