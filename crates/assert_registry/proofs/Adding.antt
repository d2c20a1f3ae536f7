-- The cells of owners, added by id.
use Rattle.std.proofs.Common.{◌≡◌, ℕ, ◌<◌, true, false, ⊎_elim, List, [], ◌∷◌, ◌++◌, map, Option, Some, sym, ap, ◌∙◌, arith, eqb-true}
use Rattle.std.specs.List.Sorted.{IsStrictlySortedBy}
use Rattle.std.specs.Ordering.{nat_cmp}
use Rattle.std.proofs.lemmas.Bool.{or_cases, or_right, false≢true, false_from_ne_true}
use Rattle.std.proofs.lemmas.List.{append_assoc, map-append}
use Rattle.graph_meaning.specs.Reach.{has_id}
use Rattle.graph_meaning.proofs.Membership.{has_id-head, has_id-append}
use Rattle.object_table.specs.Placed.{PlacedTable, id_in}
use Rattle.assert_registry.proofs.Rising.{Rise-sorted, Rise-head}

-- The objects in these cells have ids below those that are left.
abbrev pub AreBelow : PlacedTable → List ℕ → List ℕ → Type 0
AreBelow p owners left =
    (owner x y : ℕ) → has_id owners owner ≡ true → id_in p owner ≡ Some x → has_id left y ≡ true → x < y

module _ (p : PlacedTable) (owners left : List ℕ) (id cell : ℕ) (held : id_in p cell ≡ Some id) where
  -- the cell of the next owner is none of those before
  pub is_new : AreBelow p owners (id ∷ left) → has_id owners cell ≡ false
  is_new below =
      false_from_ne_true _ (λ at. let less : id < id = below cell id id at held (has_id-head left id) in omega arith)

  -- and its object's id is below those that are left then
  pub below_more : IsStrictlySortedBy nat_cmp (id ∷ left) → AreBelow p owners (id ∷ left) → AreBelow p (owners ++ cell ∷ []) left
  below_more sorted below owner x y at is later =
      ⊎_elim
      (λ before. below owner x y before is (or_right _ _ later))
      (λ last.
      let here : cell ≡ owner = ⊎_elim (λ same. eqb-true cell owner same) (λ none. absurd (false≢true none)) (or_cases _ _ last) in
      let same : Some id ≡ Some x = sym held ∙ ap (id_in p) here ∙ is in
      let e : id ≡ x = cc in
      let less : id < y = Rise-head id left (Rise-sorted (id ∷ left) sorted) y later in
      omega arith)
      (or_cases _ _ (sym (has_id-append owners (cell ∷ []) owner) ∙ at))

  -- what the cells hold, and what is left, are together as before
  pub added_more : (all : List (Option ℕ)) → map (id_in p) owners ++ map Some (id ∷ left) ≡ all → map (id_in p) (owners ++ cell ∷ []) ++ map Some left ≡ all
  added_more all before =
      ap (λ xs. xs ++ map Some left) (map-append (id_in p) owners (cell ∷ []))
      ∙ append_assoc (map (id_in p) owners) (id_in p cell ∷ []) (map Some left)
      ∙ ap (λ o. map (id_in p) owners ++ o ∷ map Some left) held
      ∙ before
