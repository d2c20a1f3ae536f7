-- Distances, and canonical paths: no path is shorter.
use Rattle.std.proofs.Common.{◌≡◌, ℕ, zero, suc, ◌+◌, ◌<◌, ◌≤◌, Bool, true, false, ◌&&◌, ◌||◌, cond, ⊎_elim, List, [], ◌∷◌, ◌++◌, length, sym, ap}
use Rattle.std.proofs.Common.{refl, subst, ◌∙◌, arith, IsTrue, ◌==◌, All, length-append, Option, None, Some}
use Rattle.std.specs.Prelude.{find}
use Rattle.std.specs.List.{list_any, range_with_len}
use Rattle.std.specs.Option.{is_some, option_map, option_and_then}
use Rattle.std.proofs.lemmas.Bool.{cases_Bool, or_cases, or_left, or_right, and_parts, and_from, false≢true, cases_lt}
use Rattle.std.proofs.lemmas.List.Elements.{All-head, All-tail}
use Rattle.std.proofs.lemmas.Option.{option_and_then_some}
use Rattle.graph_meaning.specs.Heap.{edges}
use Rattle.graph_meaning.specs.Reach.{Graph, has_id, HasEdge, IsPath, within, reached_nodes, distance, predecessor, DistanceIsShortest}
use Rattle.graph_meaning.specs.Paths.{Way, PathSearch, way_by_edge, way_on_to, way_ends, search_graph, way_at, canonical_way}
use Rattle.graph_meaning.specs.Laws.{CanonicalIsShortest}
use Rattle.graph_meaning.proofs.Membership.{has_id-filter, list_any-from_has_id, has_id-from_list_any, is_some-find}
use Rattle.graph_meaning.proofs.Reaching.{IsPath-snoc, reached_is_reachable}
use Rattle.graph_meaning.proofs.HeapLemmas.{has_id-ids}

-- ---- the first number that passes a test

-- the first of a range is found where it passes
found_first : (p : ℕ → Bool) (a m n : ℕ) → p a ≡ true → find p (range_with_len a (suc m)) ≡ Some n → a ≡ n
found_first p a m n here found = let found_a : Some a ≡ Some n = rw here at found in cc

-- and else one of the rest
found_later : (p : ℕ → Bool) (a m n : ℕ) → p a ≡ false → find p (range_with_len a (suc m)) ≡ Some n → find p (range_with_len (a + 1) m) ≡ Some n
found_later p a m n fails found = rw fails at found

pub find-range_passes : (p : ℕ → Bool) (a m n : ℕ) → find p (range_with_len a m) ≡ Some n → p n ≡ true
find-range_passes p a zero n found = absurd (cc)
find-range_passes p a (suc m) n found =
    ⊎_elim
    (λ here. let e : a ≡ n = found_first p a m n here found in subst (λ k. p k ≡ true) e here)
    (λ fails. find-range_passes p (a + 1) m n (found_later p a m n fails found))
    (cases_Bool (p a))

pub find-range_first : (p : ℕ → Bool) (a m n : ℕ) → find p (range_with_len a m) ≡ Some n → (k : ℕ) → a ≤ k → p k ≡ true → n ≤ k
find-range_first p a zero n found k from passes = absurd (cc)
find-range_first p a (suc m) n found k from passes =
    ⊎_elim
    (λ here. let e : a ≡ n = found_first p a m n here found in omega arith)
    (λ fails. find-range_first p (a + 1) m n (found_later p a m n fails found) k (after fails) passes)
    (cases_Bool (p a))
  where
    after : p a ≡ false → a + 1 ≤ k
    after fails = ⊎_elim (λ less. omega arith) (λ few. let e : a ≡ k = omega arith in absurd (false≢true (sym fails ∙ ap p e ∙ passes))) (cases_lt a k)

pub list_any-range : (p : ℕ → Bool) (a m k : ℕ) → a ≤ k → k < a + m → p k ≡ true → list_any p (range_with_len a m) ≡ true
list_any-range p a zero k from below passes = absurd (omega arith)
list_any-range p a (suc m) k from below passes =
    ⊎_elim
    (λ less. or_right _ _ (list_any-range p (a + 1) m k (omega arith) (omega arith) passes))
    (λ few. let e : k ≡ a = omega arith in or_left _ _ (subst (λ n. p n ≡ true) e passes))
    (cases_lt a k)

pub same_bools : (a b : Bool) → (IsTrue a → IsTrue b) → (IsTrue b → IsTrue a) → a ≡ b
same_bools true b to from = sym (to refl)
same_bools false true to from = from refl
same_bools false false to from = refl

-- what is found has what all have
pub find_All : {X : Type 0} (p : X → Bool) (P : X → Type 0) (xs : List X) (x : X) → All P xs → find p xs ≡ Some x → P x
find_All p P [] x all found = absurd (cc)
find_All {X} p P (z ∷ xs) x all found = go (p z) (find_All p P xs x (All-tail P z xs all)) found
  where
    go : (b : Bool) → (find p xs ≡ Some x → P x) → cond b (Some z) (find p xs) ≡ Some x → P x
    go true later found = let e : z ≡ x = cc in subst P e (All-head P z xs all)
    go false later found = later found

-- ---- rounds and paths

module _ (g : Graph) (sources : List ℕ) where
  -- one more round keeps what was found, and finds what an edge leads to
  within-next : (n y : ℕ) → IsTrue (has_id (within g sources n) y) → IsTrue (has_id g.nodes y) → IsTrue (has_id (within g sources (suc n)) y)
  unfolding within
  within-next n y at node =
      has_id-filter (λ z. has_id (within g sources n) z || list_any (λ x. g.passable x && has_id (g.targets x) z) (within g sources n)) g.nodes y ∙ and_from _ _ (or_left _ _ at) node

  pub within-along : (n x y : ℕ) → IsTrue (has_id (within g sources n) x) → IsTrue (g.passable x) → HasEdge g x y → IsTrue (has_id (within g sources (suc n)) y)
  unfolding within
  within-along n x y at passes edge =
      has_id-filter (λ z. has_id (within g sources n) z || list_any (λ u. g.passable u && has_id (g.targets u) z) (within g sources n)) g.nodes y
      ∙ and_from _ _ (or_right _ _ (list_any-from_has_id (λ u. g.passable u && has_id (g.targets u) y) (within g sources n) x at (and_from _ _ passes edge.0))) edge.1

  within-path : (n x : ℕ) (steps : List ℕ) (y : ℕ) → IsTrue (has_id (within g sources n) x) → IsPath g x steps y → IsTrue (has_id (within g sources (n + length steps)) y)
  within-path n x [] y at path =
      let e : n ≡ n + 0 = omega arith in subst (λ k. IsTrue (has_id (within g sources k) y)) e (subst (λ z. IsTrue (has_id (within g sources n) z)) path at)
  within-path n x (z ∷ steps) y at path =
      let e : suc n + length steps ≡ n + suc (length steps) = omega arith in
      subst (λ k. IsTrue (has_id (within g sources k) y)) e (within-path (suc n) z steps y (within-along n x z at path.0 path.1) path.2)

  -- what stands within n steps is the end of a path of at most n steps from a source
  pub path_within : (n y : ℕ) → IsTrue (has_id (within g sources n) y) → (x : ℕ) × (steps : List ℕ) × IsTrue (has_id sources x) × IsTrue (has_id g.nodes x) × IsPath g x steps y × (length steps ≤ n)
  unfolding within
  path_within zero y at =
      let both = and_parts _ _ (sym (has_id-filter (has_id sources) g.nodes y) ∙ at) in
      (y, [], both.0, both.1, refl, omega arith)
  path_within (suc n) y at =
      let before = within g sources n in
      let both = and_parts _ _ (sym (has_id-filter (λ z. has_id before z || list_any (λ x. g.passable x && has_id (g.targets x) z) before) g.nodes y) ∙ at) in
      ⊎_elim
      (λ old. let p = path_within n y old in let few : length p.1 ≤ n = p.5 in (p.0, p.1, p.2, p.3, p.4, omega arith))
      (λ beyond.
      let step = has_id-from_list_any (λ x. g.passable x && has_id (g.targets x) y) before beyond in
      let edge = and_parts _ _ step.2 in
      let p = path_within n step.0 step.1 in
      let few : length p.1 ≤ n = p.5 in
      let longer = length-append p.1 (y ∷ []) in
      (p.0, p.1 ++ y ∷ [], p.2, p.3, IsPath-snoc g p.0 p.1 step.0 y p.4 edge.0 (edge.1, both.1), omega (arith, longer)))
      (or_cases _ _ both.0)

  source_within : (x : ℕ) → IsTrue (has_id sources x) → IsTrue (has_id g.nodes x) → IsTrue (has_id (within g sources zero) x)
  unfolding within
  source_within x source node = has_id-filter (has_id sources) g.nodes x ∙ and_from _ _ source node

  within_count : (x : ℕ) (steps : List ℕ) (y : ℕ) → IsTrue (has_id sources x) → IsTrue (has_id g.nodes x) → IsPath g x steps y → IsTrue (has_id (within g sources (length steps)) y)
  within_count x steps y source node path =
      let e : 0 + length steps ≡ length steps = omega arith in
      subst (λ k. IsTrue (has_id (within g sources k) y)) e (within-path zero x steps y (source_within x source node) path)

  -- no path is shorter than the distance
  pub distance_least : (y n : ℕ) → distance g sources y ≡ Some n → (x : ℕ) (steps : List ℕ) → IsTrue (has_id sources x) → IsTrue (has_id g.nodes x) → IsPath g x steps y → n ≤ length steps
  unfolding distance
  distance_least y n found x steps source node path =
      find-range_first (λ k. has_id (within g sources k) y) 0 (suc (length g.nodes)) n found (length steps) (omega arith) (within_count x steps y source node path)

  pub distance_within : (y n : ℕ) → distance g sources y ≡ Some n → IsTrue (has_id (within g sources n) y)
  unfolding distance
  distance_within y n found = find-range_passes (λ k. has_id (within g sources k) y) 0 (suc (length g.nodes)) n found

  -- there is a distance exactly to what is reached
  pub is_some-distance : (y : ℕ) → is_some (distance g sources y) ≡ has_id (reached_nodes g sources) y
  unfolding distance reached_nodes
  is_some-distance y =
      let p = λ (k : ℕ). has_id (within g sources k) y in
      is_some-find p (range_with_len 0 (suc (length g.nodes)))
      ∙ same_bools _ _
      (λ some.
      let at = has_id-from_list_any p (range_with_len 0 (suc (length g.nodes))) some in
      let w = path_within at.0 y at.2 in
      (reached_is_reachable g sources y).1 (w.0, w.1, w.2, w.3, w.4))
      (λ found. list_any-range p 0 (suc (length g.nodes)) (length g.nodes) (omega arith) (omega arith) found)

pub distance_is_shortest : DistanceIsShortest
distance_is_shortest g sources y n found =
    let w = path_within g sources n y (distance_within g sources y n found) in
    let few : length w.1 ≤ n = w.5 in
    let least = distance_least g sources y n found w.0 w.1 w.2 w.3 w.4 in
    record { attained = (w.0, w.1, w.2, w.4, omega arith); least = distance_least g sources y n found }

-- ---- canonical paths

module _ (s : PathSearch) (k : ℕ) (start : All (λ u. length u.steps ≡ k) s.sources) where
  source_steps : (y : ℕ) (w : Way) → find (λ u. u.to == y) s.sources ≡ Some w → length w.steps ≡ k
  source_steps y w found = find_All (λ u. u.to == y) (λ u. length u.steps ≡ k) s.sources w start found

  on_to_steps : (y : ℕ) (v w : Way) → way_on_to s.table y v ≡ Some w → length w.steps ≡ length v.steps + 1
  on_to_steps y v w found = go (find (λ e. e.1 == y) (edges s.table v.to)) found
    where
      go : (e : Option (ℕ × ℕ)) → option_map (way_by_edge s.table v) e ≡ Some w → length w.steps ≡ length v.steps + 1
      go None found = absurd (cc)
      go (Some e) found =
          let same : way_by_edge s.table v e ≡ w = cc in
          subst (λ (u : Way). length u.steps ≡ length v.steps + 1) same (length-append v.steps _)

  way_at-length : (n y : ℕ) (w : Way) → way_at s n y ≡ Some w → length w.steps ≡ k + n
  unfolding way_at
  way_at-length zero y w found = let e = source_steps y w found in omega arith
  way_at-length (suc n) y w found =
      option_and_then_some (way_on_to s.table y) (option_and_then (way_at s n) (predecessor (search_graph s) (way_ends s.sources) n y)) w found
      (λ v before last.
      option_and_then_some (way_at s n) (predecessor (search_graph s) (way_ends s.sources) n y) v before
      (λ x least at. let e = way_at-length n x v at in let f = on_to_steps y v w last in omega arith))

pub canonical_is_shortest : CanonicalIsShortest
unfolding canonical_way
canonical_is_shortest t is_shut sources k y w start found x steps source live path =
    let s : PathSearch = record { table = t; is_shut = is_shut; sources = sources } in
    option_and_then_some (λ n. way_at s n y) (distance (search_graph s) (way_ends sources) y) w found
    (λ n far at.
    let exact = way_at-length s k start n y w at in
    let least = distance_least (search_graph s) (way_ends sources) y n far x steps source (has_id-ids t x ∙ live) path in
    omega arith)
