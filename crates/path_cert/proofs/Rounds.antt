-- Rounds, levels and distances in a graph.
use Rattle.std.proofs.Common.{◌≡◌, ℕ, zero, suc, ◌+◌, ◌-◌, ◌<◌, ◌≤◌, Bool, true, false, ◌&&◌, ◌||◌, not, cond, ⊎_elim, List, [], ◌∷◌, length}
use Rattle.std.proofs.Common.{get_or, sym, refl, ap, subst, ◌∙◌, arith, eqb-true, eq-eqb, IsTrue, Option, None, Some}
use Rattle.std.specs.Prelude.{find, AllPairs}
use Rattle.std.specs.List.{list_any}
use Rattle.std.specs.Option.{is_some}
use Rattle.std.proofs.lemmas.Bool.{cases_Bool, cases_lt, or_cases, or_left, or_right, and_parts, and_from, false≢true, false_from_ne_true}
use Rattle.std.proofs.lemmas.List.Kept.{AllPairs-filter}
use Rattle.graph_meaning.specs.Reach.{Graph, has_id, HasEdge, within, level, distance}
use Rattle.graph_meaning.proofs.Distances.{find-range_first, distance_within, path_within, is_some-distance, within-along}
use Rattle.graph_meaning.proofs.Membership.{has_id-filter, has_id-from_list_any}
use Rattle.graph_meaning.proofs.Reaching.{IsClosed, IsClosed-reachable, reached_is_reachable}

-- ---- the least of a rising list

-- where an element stands
pub index-of : (xs : List ℕ) (y : ℕ) → has_id xs y ≡ true → (k : ℕ) × (k < length xs) × (get_or xs k 0 ≡ y)
index-of [] y at = absurd (false≢true at)
index-of (x ∷ xs) y at =
    ⊎_elim
    (λ here. (zero, omega arith, eqb-true x y here))
    (λ later. let (k, within, is) = index-of xs y later in (suc k, omega arith, is))
    (or_cases _ _ at)

abbrev Rises : List ℕ → Type 0
Rises xs = AllPairs (λ a b. a < b) xs

rises-tail : (z : ℕ) (xs : List ℕ) → Rises (z ∷ xs) → Rises xs
rises-tail z xs rising i j d less within = rising (suc i) (suc j) d (omega arith) (omega arith)

rises-head : (z : ℕ) (xs : List ℕ) → Rises (z ∷ xs) → (y : ℕ) → has_id xs y ≡ true → z < y
rises-head z xs rising y at =
    let (k, within, is) = index-of xs y at in subst (λ n. z < n) is (rising 0 (suc k) 0 (omega arith) (omega arith))

-- what is found passes
pub find-passes : {X : Type 0} (q : X → Bool) (xs : List X) (x : X) → find q xs ≡ Some x → q x ≡ true
find-passes q [] x found = absurd (cc)
find-passes {X} q (z ∷ xs) x found = go (q z) refl (find-passes q xs x) found
  where
    go : (b : Bool) → q z ≡ b → (find q xs ≡ Some x → q x ≡ true) → cond b (Some z) (find q xs) ≡ Some x → q x ≡ true
    go true is later found = (let same : z ≡ x = cc in subst (λ y. q y ≡ true) same is)
    go false is later found = later found

-- the least element of a rising list that passes is the first that does
pub find-least : (q : ℕ → Bool) (xs : List ℕ) (x : ℕ) → AllPairs (λ a b. a < b) xs → has_id xs x ≡ true → q x ≡ true → ((y : ℕ) → has_id xs y ≡ true → q y ≡ true → x ≤ y) → find q xs ≡ Some x
find-least q [] x rising at passes least = absurd (false≢true at)
find-least q (z ∷ xs) x rising at passes least =
    ⊎_elim
    (λ is.
    let low : x ≤ z = least z (or_left _ _ (eq-eqb z z refl)) is in
    let same : z ≡ x = ⊎_elim (λ here. eqb-true z x here) (λ later. let above = rises-head z xs rising x later in absurd (omega arith)) (or_cases _ _ at) in
    ap (λ b. cond b (Some z) (find q xs)) is ∙ ap Some same)
    (λ fails.
    let at_later : has_id xs x ≡ true = ⊎_elim (λ here. absurd (false≢true (sym fails ∙ ap q (eqb-true z x here) ∙ passes))) (λ later. later) (or_cases _ _ at) in
    ap (λ b. cond b (Some z) (find q xs)) fails ∙ find-least q xs x (rises-tail z xs rising) at_later passes (λ y there ok. least y (or_right _ _ there) ok))
    (cases_Bool (q z))

module _ (g : Graph) (sources : List ℕ) where
  pub within-node : (n y : ℕ) → IsTrue (has_id (within g sources n) y) → IsTrue (has_id g.nodes y)
  unfolding within
  within-node zero y at = (and_parts _ _ (sym (has_id-filter (has_id sources) g.nodes y) ∙ at)).1
  within-node (suc n) y at =
      (and_parts _ _ (sym (has_id-filter (λ z. has_id (within g sources n) z || list_any (λ x. g.passable x && has_id (g.targets x) z) (within g sources n)) g.nodes y) ∙ at)).1

  within-next : (n y : ℕ) → IsTrue (has_id (within g sources n) y) → IsTrue (has_id (within g sources (suc n)) y)
  unfolding within
  within-next n y at =
      has_id-filter (λ z. has_id (within g sources n) z || list_any (λ x. g.passable x && has_id (g.targets x) z) (within g sources n)) g.nodes y ∙ and_from _ _ (or_left _ _ at) (within-node n y at)

  within-later : (m k y : ℕ) → IsTrue (has_id (within g sources m) y) → IsTrue (has_id (within g sources (k + m)) y)
  within-later m zero y at = let same : m ≡ 0 + m = omega arith in subst (λ n. IsTrue (has_id (within g sources n) y)) same at
  within-later m (suc k) y at =
      let same : suc (k + m) ≡ suc k + m = omega arith in
      subst (λ n. IsTrue (has_id (within g sources n) y)) same (within-next (k + m) y (within-later m k y at))

  pub within-mono : (m n y : ℕ) → m ≤ n → IsTrue (has_id (within g sources m) y) → IsTrue (has_id (within g sources n) y)
  within-mono m n y less at =
      let same : (n - m) + m ≡ n = omega arith in
      subst (λ k. IsTrue (has_id (within g sources k) y)) same (within-later m (n - m) y at)

  -- ---- levels

  pub level-within : (n y : ℕ) → IsTrue (has_id (level g sources n) y) → IsTrue (has_id (within g sources n) y)
  unfolding level
  level-within zero y at = at
  level-within (suc n) y at =
      (and_parts _ _ (sym (has_id-filter (λ z. not (has_id (within g sources n) z)) (within g sources (suc n)) y) ∙ at)).1

  not_true : (b : Bool) → not b ≡ true → b ≡ false
  not_true true is = absurd (false≢true is)
  not_true false is = refl

  level-new : (n y : ℕ) → IsTrue (has_id (level g sources (suc n)) y) → has_id (within g sources n) y ≡ false
  unfolding level
  level-new n y at =
      not_true _ (and_parts _ _ (sym (has_id-filter (λ z. not (has_id (within g sources n) z)) (within g sources (suc n)) y) ∙ at)).0

  pub level-first : (y : ℕ) → IsTrue (has_id (within g sources zero) y) → IsTrue (has_id (level g sources zero) y)
  unfolding level
  level-first y at = at

  pub level-from : (n y : ℕ) → IsTrue (has_id (within g sources (suc n)) y) → has_id (within g sources n) y ≡ false → IsTrue (has_id (level g sources (suc n)) y)
  unfolding level
  level-from n y at new =
      has_id-filter (λ z. not (has_id (within g sources n) z)) (within g sources (suc n)) y ∙ and_from _ _ (ap not new) at

  -- what is within so many steps and leads on to what isn't is of the last level
  last_level : (n x y : ℕ) → IsTrue (has_id (within g sources n) x) → IsTrue (g.passable x) → HasEdge g x y → has_id (within g sources n) y ≡ false → IsTrue (has_id (level g sources n) x)
  last_level zero x y at passes edge new = level-first x at
  last_level (suc n) x y at passes edge new =
      level-from n x at (false_from_ne_true _ (λ early. false≢true (sym new ∙ within-along g sources n x y early passes edge)))

  -- an edge leads to what is new in a round from a node of the level before
  pub level-last : (n y : ℕ) → IsTrue (has_id (within g sources (suc n)) y) → has_id (within g sources n) y ≡ false →
      (x : ℕ) × IsTrue (has_id (level g sources n) x) × IsTrue (g.passable x) × IsTrue (has_id (g.targets x) y)
  unfolding within
  level-last n y at new =
      let before = within g sources n in
      let grown = and_parts _ _ (sym (has_id-filter (λ z. has_id before z || list_any (λ x. g.passable x && has_id (g.targets x) z) before) g.nodes y) ∙ at) in
      ⊎_elim
      (λ old. absurd (false≢true (sym new ∙ old)))
      (λ beyond.
      let step = has_id-from_list_any (λ x. g.passable x && has_id (g.targets x) y) before beyond in
      let edge = and_parts _ _ step.2 in
      (step.0, last_level n step.0 y step.1 edge.0 (edge.1, grown.1) new, edge.0, edge.1))
      (or_cases _ _ grown.0)

  -- ---- distances

  some-of : (o : Option ℕ) → is_some o ≡ true → (n : ℕ) × (o ≡ Some n)
  some-of None is = absurd (false≢true is)
  some-of (Some n) is = (n, refl)

  none-of : (o : Option ℕ) → is_some o ≡ false → o ≡ None
  none-of None is = refl
  none-of (Some n) is = absurd (false≢true (sym is))

  not_before : (d m y : ℕ) → IsTrue (has_id (level g sources m) y) → IsTrue (has_id (within g sources d) y) → m ≤ d
  not_before d zero y at here = omega arith
  not_before d (suc m) y at here =
      ⊎_elim
      (λ less. less)
      (λ early. absurd (false≢true (sym (level-new m y at) ∙ within-mono d m y early here)))
      (cases_lt m d)

  -- the level of a node is its distance
  pub level-distance : (m y : ℕ) → IsTrue (has_id (level g sources m) y) → distance g sources y ≡ Some m
  unfolding distance
  level-distance m y at =
      let here = level-within m y at in
      let path = path_within g sources m y here in
      let some = some-of (distance g sources y) (is_some-distance g sources y ∙ (reached_is_reachable g sources y).1 (path.0, path.1, path.2, path.3, path.4)) in
      let early : some.0 ≤ m = find-range_first (λ k. has_id (within g sources k) y) 0 (suc (length g.nodes)) some.0 some.1 m (omega arith) here in
      let late : m ≤ some.0 = not_before some.0 m y at (distance_within g sources y some.0 some.1) in
      let same : some.0 ≡ m = omega arith in
      some.1 ∙ ap Some same

  -- no node has a distance beyond an empty level
  pub no-distance : (n y : ℕ) → ((x : ℕ) → has_id (level g sources n) x ≡ false) → has_id (within g sources n) y ≡ false → distance g sources y ≡ None
  unfolding within
  no-distance n y empty new =
      none-of (distance g sources y)
      (is_some-distance g sources y
      ∙ false_from_ne_true _ (λ reached. false≢true (sym new ∙ IsClosed-reachable g sources (has_id (within g sources n)) closed y ((reached_is_reachable g sources y).0 reached))))
    where
      first : (x : ℕ) → IsTrue (has_id sources x) → IsTrue (has_id g.nodes x) → IsTrue (has_id (within g sources zero) x)
      first x source node = has_id-filter (has_id sources) g.nodes x ∙ and_from _ _ source node

      closed : IsClosed g sources (has_id (within g sources n))
      closed = record {
        from_sources = λ x source node. within-mono zero n x (omega arith) (first x source node);
        along_edges = λ x z at passes edge. ⊎_elim (λ is. is) (λ is. absurd (false≢true (sym (empty x) ∙ last_level n x z at passes edge is))) (cases_Bool (has_id (within g sources n) z));
      }

  -- ---- order

  within-rises : AllPairs (λ a b. a < b) g.nodes → (n : ℕ) → AllPairs (λ a b. a < b) (within g sources n)
  unfolding within
  within-rises rising zero = AllPairs-filter (λ a b. a < b) (has_id sources) g.nodes rising
  within-rises rising (suc n) = AllPairs-filter (λ a b. a < b) (λ y. has_id (within g sources n) y || list_any (λ x. g.passable x && has_id (g.targets x) y) (within g sources n)) g.nodes rising

  pub level-rises : AllPairs (λ a b. a < b) g.nodes → (n : ℕ) → AllPairs (λ a b. a < b) (level g sources n)
  unfolding level
  level-rises rising zero = within-rises rising zero
  level-rises rising (suc n) = AllPairs-filter (λ a b. a < b) (λ y. not (has_id (within g sources n) y)) (within g sources (suc n)) (within-rises rising (suc n))
