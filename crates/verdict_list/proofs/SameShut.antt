-- Which objects are shut matters at live objects alone.
use Rattle.std.proofs.Common.{◌≡◌, ℕ, zero, suc, Bool, cond, not, ◌||◌, ◌&&◌, List, [], ◌∷◌, length, IsTrue, Some, ap, sym, refl, ◌∙◌}
use Rattle.std.specs.Prelude.{◌==◌}
use Rattle.std.specs.List.{filter, find, list_any, range_with_len}
use Rattle.std.specs.Option.{option_map}
use Rattle.std.proofs.lemmas.Bool.{or_right}
use Rattle.std.proofs.lemmas.List.Elements.{filter_agree}
use Rattle.graph_meaning.specs.Heap.{Table, ids, targets}
use Rattle.graph_meaning.specs.Reach.{Graph, has_id, within, level, distance, predecessor, reached_nodes}
use Rattle.graph_meaning.specs.Assertions.{open_graph}
use Rattle.graph_meaning.proofs.Membership.{has_id-head, has_id-filter, find_agree}
use Rattle.assert_registry.proofs.RolesOfTable.{and_parts}
use Rattle.object_table.specs.Placed.{PlacedTable}
use Rattle.path_cert.specs.declared.arrival.Arrival.{Arrival}
use Rattle.path_cert.specs.Levels.{Search, LevelTable, AreLevelsOf, ArrivesFirst, ArrivesNext, AtLevel, ends_of, arrival_in}

-- tests that agree at the elements of a list
list_any_within : (p q : ℕ → Bool) (xs : List ℕ) → ((x : ℕ) → IsTrue (has_id xs x) → p x ≡ q x) → list_any p xs ≡ list_any q xs
list_any_within p q [] agree = refl
list_any_within p q (x ∷ xs) agree =
    ap (λ b. b || list_any p xs) (agree x (has_id-head xs x))
    ∙ ap (λ b. q x || b) (list_any_within p q xs (λ y at. agree y (or_right (x == y) (has_id xs y) at)))

find_within : (p q : ℕ → Bool) (xs : List ℕ) → ((x : ℕ) → IsTrue (has_id xs x) → p x ≡ q x) → find p xs ≡ find q xs
find_within p q [] agree = refl
find_within p q (x ∷ xs) agree =
    ap (λ b. cond b (Some x) (find p xs)) (agree x (has_id-head xs x))
    ∙ ap (λ o. cond (q x) (Some x) o) (find_within p q xs (λ y at. agree y (or_right (x == y) (has_id xs y) at)))

module _ (t : Table) (shut other : ℕ → Bool) (agree : (x : ℕ) → IsTrue (has_id (ids t) x) → shut x ≡ other x) where
  abbrev g : Graph
  g = open_graph t shut

  abbrev f : Graph
  f = open_graph t other

  within-nodes : (sources : List ℕ) (n x : ℕ) → IsTrue (has_id (within g sources n) x) → IsTrue (has_id (ids t) x)
  unfolding within
  within-nodes sources zero x at = (and_parts _ _ (sym (has_id-filter (has_id sources) (ids t) x) ∙ at)).1
  within-nodes sources (suc n) x at =
      (and_parts _ _ (sym (has_id-filter (λ y. has_id (within g sources n) y || list_any (λ z. not (shut z) && has_id (targets t z) y) (within g sources n)) (ids t) x) ∙ at)).1

  pub within-same : (sources : List ℕ) (n : ℕ) → within g sources n ≡ within f sources n
  unfolding within
  within-same sources zero = refl
  within-same sources (suc n) =
      filter_agree (λ y. has_id (within g sources n) y || list_any (λ z. not (shut z) && has_id (targets t z) y) (within g sources n))
      (λ y. has_id (within g sources n) y || list_any (λ z. not (other z) && has_id (targets t z) y) (within g sources n))
      (λ y. ap (λ b. has_id (within g sources n) y || b)
      (list_any_within (λ z. not (shut z) && has_id (targets t z) y) (λ z. not (other z) && has_id (targets t z) y) (within g sources n)
      (λ z at. ap (λ b. not b && has_id (targets t z) y) (agree z (within-nodes sources n z at)))))
      (ids t)
      ∙ ap (λ found. filter (λ y. has_id found y || list_any (λ z. not (other z) && has_id (targets t z) y) found) (ids t)) (within-same sources n)

  pub reached-same : (sources : List ℕ) → reached_nodes g sources ≡ reached_nodes f sources
  unfolding reached_nodes
  reached-same sources = within-same sources (length (ids t))

  pub distance-same : (sources : List ℕ) (y : ℕ) → distance g sources y ≡ distance f sources y
  unfolding distance
  distance-same sources y =
      find_agree (λ n. has_id (within g sources n) y) (λ n. has_id (within f sources n) y) (λ n. ap (λ found. has_id found y) (within-same sources n)) (range_with_len 0 (suc (length (ids t))))

  level-nodes : (sources : List ℕ) (n x : ℕ) → IsTrue (has_id (level g sources n) x) → IsTrue (has_id (ids t) x)
  unfolding level
  level-nodes sources zero x at = within-nodes sources zero x at
  level-nodes sources (suc n) x at =
      within-nodes sources (suc n) x (and_parts _ _ (sym (has_id-filter (λ y. not (has_id (within g sources n) y)) (within g sources (suc n)) x) ∙ at)).1

  level-same : (sources : List ℕ) (n : ℕ) → level g sources n ≡ level f sources n
  unfolding level
  level-same sources zero = within-same sources zero
  level-same sources (suc n) =
      ap (λ found. filter (λ y. not (has_id found y)) (within g sources (suc n))) (within-same sources n)
      ∙ ap (λ found. filter (λ y. not (has_id (within f sources n) y)) found) (within-same sources (suc n))

  pub predecessor-same : (sources : List ℕ) (n y : ℕ) → predecessor g sources n y ≡ predecessor f sources n y
  unfolding predecessor
  predecessor-same sources n y =
      find_within (λ x. not (shut x) && has_id (targets t x) y) (λ x. not (other x) && has_id (targets t x) y) (level g sources n)
      (λ x at. ap (λ b. not b && has_id (targets t x) y) (agree x (level-nodes sources n x at)))
      ∙ ap (λ found. find (λ x. not (other x) && has_id (targets t x) y) found) (level-same sources n)

-- the search with other objects shut
abbrev shutting : Search → (ℕ → Bool) → Search
shutting s other = record { start = s.start; sources = s.sources; is_shut = other }

-- The levels of a search are those of one that shuts the same live objects.
pub levels-same : (p : PlacedTable) (s : Search) (other : ℕ → Bool) (l : LevelTable) →
    ((x : ℕ) → IsTrue (has_id (ids p.table) x) → s.is_shut x ≡ other x) → AreLevelsOf p s l → AreLevelsOf p (shutting s other) l
levels-same p s other l agree are = record {
  start = are.start;
  each = are.each;
  levels = λ cell id held. are.levels cell id held ∙ ap (option_map suc) (distance-same p.table s.is_shut other agree (ends_of s) id);
  arrives = λ cell id held. go (arrival_in l.arrivals cell) id (arrival_in l.arrivals cell).level (are.arrives cell id held);
}
  where
    go : (a : Arrival) (id n : ℕ) → AtLevel n (ArrivesFirst p s a id) (ArrivesNext (record { placed = p; search = s }) a id) →
        AtLevel n (ArrivesFirst p (shutting s other) a id) (ArrivesNext (record { placed = p; search = shutting s other }) a id)
    go a id zero at = at
    go a id (suc zero) at = record { way = at.way; first = at.first; by = at.by; leads = at.leads }
    go a id (suc (suc n)) at = record {
      before = at.before;
      held = at.held;
      least = sym (predecessor-same p.table s.is_shut other agree (ends_of s) n id) ∙ at.least;
      edge = at.edge;
    }
