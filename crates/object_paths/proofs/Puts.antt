-- A reference more in a search.
use Rattle.std.proofs.Common.{◌≡◌, ◌≢◌, ℕ, ◌<◌, ◌==◌, cond, ⊎_elim, List, [], ◌∷◌, ◌++◌, length, get_or, sym, refl, ap, subst, ◌∙◌, arith, append-nil, eqb-true, eq-eqb, None, Some}
use Rattle.std.specs.List.{slice_get}
use Rattle.std.specs.Prelude.{slice_set}
use Rattle.std.proofs.lemmas.Bool.{cases_eq, false_from_ne_true}
use Rattle.std.proofs.lemmas.List.{get_or-set_same, get_or-set_other, length-set}
use Rattle.std.proofs.lemmas.Option.{slice_get_within, slice_get-get_or, get_or_from_slice_get}
use Rattle.graph_meaning.specs.Assertions.{Reference}
use Rattle.graph_meaning.specs.Roles.{id_at}
use Rattle.object_table.specs.Placed.{PlacedTable, id_in, IsPlaced}
use Rattle.object_paths.specs.declared.cell_reference.FirstReferences.{FirstReferences}
use Rattle.object_paths.specs.References.{StartList}
use Rattle.object_paths.specs.Prefixes.{Finding, FindsFirst, IsOneMore}
use Rattle.object_table.proofs.ObjectsByCell.{held-id, id-held}

-- a list of another object
list-other : (id x : ℕ) (r : Reference) (before after : ℕ → List Reference) → IsOneMore id r before after → id ≢ x → before x ≡ after x
list-other id x r before after more other =
    sym (more x ∙ ap (λ b. before x ++ cond b (r ∷ []) []) (false_from_ne_true (id == x) (λ same. other (eqb-true id x same))) ∙ append-nil (before x))

-- the list of this object
list-here : (id : ℕ) (r : Reference) (before after : ℕ → List Reference) → IsOneMore id r before after → before id ++ r ∷ [] ≡ after id
list-here id r before after more =
    sym (more id ∙ ap (λ b. before id ++ cond b (r ∷ []) []) (eq-eqb id id refl))

module _ (p : PlacedTable) (placed : IsPlaced p) (asked : List ℕ) (before after : ℕ → List Reference) (f : Finding) (cell id : ℕ) (r : Reference)
    (held : id_in p cell ≡ Some id) (more : IsOneMore id r before after) (finds : FindsFirst p asked before f) where
  -- another cell that was asked for has another object
  apart : (n c : ℕ) → slice_get asked n ≡ Some c → c ≢ cell → id ≢ id_at p.cells c
  apart n c at other same =
      other (placed.once c cell id (held-id p c (finds.are.held n c at) ∙ ap Some (sym same)) held)

  -- the object was not asked for
  pub finds-passed : get_or f.places cell None ≡ None → FindsFirst p asked after f
  finds-passed none = record {
    are = finds.are;
    first = λ n c found at is.
        let other : c ≢ cell = λ same. (let placed_at = finds.are.placed n c at in let e = ap (λ x. get_or f.places x None) same in absurd (cc)) in
        subst (λ rs. StartList p (id_at p.cells c) rs found) (list-other id (id_at p.cells c) r before after more (apart n c at other)) (finds.first n c found at is);
  }

  -- The object has a place among the asked ones, and the reference comes after those that were found.
  pub finds-put : (place : ℕ) (known next : FirstReferences) → get_or f.places cell None ≡ Some place → slice_get f.found place ≡ Some known →
      ((list : List Reference) → StartList p id list known → StartList p id (list ++ r ∷ []) next) →
      FindsFirst p asked after (record { places = f.places; found = slice_set f.found place next })
  finds-put place known next at_place is_known with_one = record {
    are = record {
      held = finds.are.held;
      placed = finds.are.placed;
      only = finds.are.only;
      each = length-set f.found place next ∙ finds.are.each;
    };
    first = λ n c found at is. ⊎_elim (here n c found at is) (there n c found at is) (cases_eq n place);
  }
    where
      is_asked : slice_get asked place ≡ Some cell
      is_asked = finds.are.only place cell at_place

      within : place < length f.found
      within = slice_get_within f.found place known is_known

      known_starts : StartList p id (before id) known
      known_starts =
          let start = finds.first place cell known is_asked is_known in
          let same : id_at p.cells cell ≡ id = id-held p cell id held in
          subst (λ x. StartList p x (before x) known) same start

      next_starts : StartList p id (after id) next
      next_starts = subst (λ rs. StartList p id rs next) (list-here id r before after more) (with_one (before id) known_starts)

      here : (n c : ℕ) (found : FirstReferences) → slice_get asked n ≡ Some c → slice_get (slice_set f.found place next) n ≡ Some found →
          n ≡ place → StartList p (id_at p.cells c) (after (id_at p.cells c)) found
      here n c found at is same =
          let same_cell : cell ≡ c = (let e = ap (slice_get asked) same in let a = is_asked in cc) in
          let same_id : id ≡ id_at p.cells c = sym (ap (id_at p.cells) (sym same_cell) ∙ id-held p cell id held) in
          let is_next : next ≡ found =
          sym (get_or-set_same f.found place next next within)
          ∙ get_or_from_slice_get (slice_set f.found place next) place found next (ap (slice_get (slice_set f.found place next)) (sym same) ∙ is) in
          subst (λ x. StartList p x (after x) found) same_id (subst (λ v. StartList p id (after id) v) is_next next_starts)

      there : (n c : ℕ) (found : FirstReferences) → slice_get asked n ≡ Some c → slice_get (slice_set f.found place next) n ≡ Some found →
          n ≢ place → StartList p (id_at p.cells c) (after (id_at p.cells c)) found
      there n c found at is other =
          let n_within : n < length f.found = (let set_within = slice_get_within (slice_set f.found place next) n found is in let many = length-set f.found place next in omega arith) in
          let was : slice_get f.found n ≡ Some found =
          slice_get-get_or f.found n found n_within ∙ ap Some (sym (get_or-set_other f.found place n next found other) ∙ get_or_from_slice_get (slice_set f.found place next) n found found is) in
          let other_cell : c ≢ cell = λ same. other ((let placed_at = finds.are.placed n c at in let e = ap (λ x. get_or f.places x None) same in let q = at_place in cc)) in
          subst (λ rs. StartList p (id_at p.cells c) rs found) (list-other id (id_at p.cells c) r before after more (apart n c at other_cell)) (finds.first n c found at was)
