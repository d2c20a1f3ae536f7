-- What is computed round by round is what paths lead to.
use Rattle.std.proofs.Common.{◌≡◌, ℕ, zero, suc, ◌<◌, ◌≤◌, Bool, true, ◌&&◌, ◌||◌, ◌⊎◌, inl, inr, ⊎_elim, List, [], ◌∷◌, ◌++◌, length, filter, sym, ap, refl, subst, ◌∙◌, arith, IsTrue}
use Rattle.std.specs.List.{list_any}
use Rattle.std.proofs.lemmas.Bool.{or_cases, or_left, or_right, and_parts, and_from, cases_lt}
use Rattle.std.proofs.lemmas.Bool.Decides.{same_from_decides}
use Rattle.graph_meaning.specs.Reach.{Graph, has_id, HasEdge, IsPath, IsReachable, next_round, within, reached_nodes, ReachedByPath}
use Rattle.graph_meaning.proofs.Membership.{filter_itself, has_id-filter, list_any-from_has_id, has_id-from_list_any, length-filter_le, filter-same_length}

-- a path and one more edge are a path
pub IsPath-snoc : (g : Graph) (x : ℕ) (steps : List ℕ) (y z : ℕ) → IsPath g x steps y → IsTrue (g.passable y) → HasEdge g y z → IsPath g x (steps ++ z ∷ []) z
IsPath-snoc g x [] y z path passes edge = (ap g.passable path ∙ passes, subst (λ w. HasEdge g w z) (sym path) edge, refl)
IsPath-snoc g x (s ∷ steps) y z path passes edge = (path.0, path.1, IsPath-snoc g s steps y z path.2 passes edge)

-- a source that is a node is reachable
pub IsReachable-source : (g : Graph) (sources : List ℕ) (x : ℕ) → IsTrue (has_id sources x) → IsTrue (has_id g.nodes x) → IsReachable g sources x
IsReachable-source g sources x source node = (x, [], source, node, refl)

-- what an edge from a passable node that is reachable leads to is reachable
pub IsReachable-step : (g : Graph) (sources : List ℕ) (y z : ℕ) → IsReachable g sources y → IsTrue (g.passable y) → HasEdge g y z → IsReachable g sources z
IsReachable-step g sources y z r passes edge =
    (r.0, r.1 ++ z ∷ [], r.2, r.3, IsPath-snoc g r.0 r.1 y z r.4 passes edge)

-- The test m passes each source that is a node, and what an edge from a passable node that it passes leads to.
pub record IsClosed (g : Graph) (sources : List ℕ) (m : ℕ → Bool) : Type 0 where
  pub from_sources : (x : ℕ) → IsTrue (has_id sources x) → IsTrue (has_id g.nodes x) → IsTrue (m x)
  pub along_edges : (x y : ℕ) → IsTrue (m x) → IsTrue (g.passable x) → HasEdge g x y → IsTrue (m y)

module _ (g : Graph) (sources : List ℕ) where
  -- what stands among the nodes after one more round
  abbrev grown : List ℕ → ℕ → Bool
  grown found y = has_id found y || list_any (λ x. g.passable x && has_id (g.targets x) y) found

  -- ---- a path leads to each node that is found

  reachable_within : (n y : ℕ) → IsTrue (has_id (within g sources n) y) → IsReachable g sources y
  unfolding within
  reachable_within zero y at =
      let both = and_parts _ _ (sym (has_id-filter (has_id sources) g.nodes y) ∙ at) in
      IsReachable-source g sources y both.0 both.1
  reachable_within (suc n) y at =
      let found = within g sources n in
      let both = and_parts _ _ (sym (has_id-filter (grown found) g.nodes y) ∙ at) in
      ⊎_elim
      (λ before. reachable_within n y before)
      (λ beyond.
      let step = has_id-from_list_any (λ x. g.passable x && has_id (g.targets x) y) found beyond in
      let edge = and_parts _ _ step.2 in
      IsReachable-step g sources step.0 y (reachable_within n step.0 step.1) edge.0 (edge.1, both.1))
      (or_cases _ _ both.0)

  -- ---- as many rounds as there are nodes find all that there is to find

  -- each round keeps what was found, in the order of the nodes
  within_is_filter : (n : ℕ) → filter (has_id (within g sources n)) g.nodes ≡ within g sources n
  unfolding within
  within_is_filter zero = filter_itself (has_id sources) g.nodes
  within_is_filter (suc n) = filter_itself (grown (within g sources n)) g.nodes

  within-in_nodes : (n y : ℕ) → IsTrue (has_id (within g sources n) y) → IsTrue (has_id g.nodes y)
  within-in_nodes n y at =
      (and_parts _ _ (sym (has_id-filter (has_id (within g sources n)) g.nodes y) ∙ ap (λ ys. has_id ys y) (within_is_filter n) ∙ at)).1

  count_le : (n : ℕ) → length (within g sources n) ≤ length g.nodes
  count_le n = subst (λ ys. length ys ≤ length g.nodes) (within_is_filter n) (length-filter_le (has_id (within g sources n)) g.nodes)

  -- a round finds more, or it finds nothing new
  more_or_same : (n : ℕ) → (length (within g sources n) < length (within g sources (suc n))) ⊎ (within g sources n ≡ within g sources (suc n))
  unfolding within
  more_or_same n =
      let before = within g sources n in
      ⊎_elim
      (λ more. inl more)
      (λ few. inr
      (sym (within_is_filter n)
      ∙ filter-same_length (has_id before) (grown before) (λ x at. or_left _ _ at) g.nodes (subst (λ ys. length (filter (grown before) g.nodes) ≤ length ys) (sym (within_is_filter n)) few)))
      (cases_lt (length before) (length (within g sources (suc n))))

  same_next : (n : ℕ) → within g sources n ≡ within g sources (suc n) → within g sources (suc n) ≡ within g sources (suc (suc n))
  unfolding within
  same_next n same = ap (next_round g) same

  many_or_same : (n : ℕ) → (n < length (within g sources (suc n))) ⊎ (within g sources n ≡ within g sources (suc n))
  many_or_same zero = ⊎_elim (λ more. inl (omega arith)) (λ same. inr same) (more_or_same zero)
  many_or_same (suc n) =
      ⊎_elim
      (λ many. ⊎_elim (λ more. inl (omega arith)) (λ same. inr same) (more_or_same (suc n)))
      (λ same. inr (same_next n same))
      (many_or_same n)

  same_at_last : within g sources (length g.nodes) ≡ within g sources (suc (length g.nodes))
  same_at_last =
      ⊎_elim
      (λ many. absurd (omega (arith, count_le (suc (length g.nodes)))))
      (λ same. same)
      (many_or_same (length g.nodes))

  source_within : (n x : ℕ) → IsTrue (has_id sources x) → IsTrue (has_id g.nodes x) → IsTrue (has_id (within g sources n) x)
  unfolding within
  source_within zero x source node = has_id-filter (has_id sources) g.nodes x ∙ and_from _ _ source node
  source_within (suc n) x source node =
      has_id-filter (grown (within g sources n)) g.nodes x ∙ and_from _ _ (or_left _ _ (source_within n x source node)) node

-- one more round finds nothing new
pub reached_nodes-next_round : (g : Graph) (sources : List ℕ) → next_round g (reached_nodes g sources) ≡ reached_nodes g sources
unfolding reached_nodes within
reached_nodes-next_round g sources = sym (same_at_last g sources)

-- only nodes are reached
pub reached_nodes-in_nodes : (g : Graph) (sources : List ℕ) (y : ℕ) → IsTrue (has_id (reached_nodes g sources) y) → IsTrue (has_id g.nodes y)
unfolding reached_nodes
reached_nodes-in_nodes g sources y at = within-in_nodes g sources (length g.nodes) y at

-- the sources that are nodes are reached
source_reached : (g : Graph) (sources : List ℕ) (x : ℕ) → IsTrue (has_id sources x) → IsTrue (has_id g.nodes x) → IsTrue (has_id (reached_nodes g sources) x)
unfolding reached_nodes
source_reached g sources x source node = source_within g sources (length g.nodes) x source node

-- What is reached is closed.
pub reached_nodes-closed : (g : Graph) (sources : List ℕ) → IsClosed g sources (has_id (reached_nodes g sources))
reached_nodes-closed g sources = record {
  from_sources = source_reached g sources;
  along_edges = λ x y at passes edge.
      let found = reached_nodes g sources in
      subst (λ ys. has_id ys y ≡ true) (reached_nodes-next_round g sources)
      (has_id-filter (grown g sources found) g.nodes y
      ∙ and_from _ _ (or_right _ _ (list_any-from_has_id (λ z. g.passable z && has_id (g.targets z) y) found x at (and_from _ _ passes edge.0))) edge.1);
}

-- a closed test passes the end of each path from what it passes
closed_path : (g : Graph) (sources : List ℕ) (m : ℕ → Bool) → IsClosed g sources m → (x : ℕ) (steps : List ℕ) (y : ℕ) → IsTrue (m x) → IsPath g x steps y → IsTrue (m y)
closed_path g sources m closed x [] y at path = ap m (sym path) ∙ at
closed_path g sources m closed x (z ∷ steps) y at path =
    closed_path g sources m closed z steps y (closed.along_edges x z at path.0 path.1) path.2

-- a closed test passes all that is reachable
pub IsClosed-reachable : (g : Graph) (sources : List ℕ) (m : ℕ → Bool) → IsClosed g sources m → (y : ℕ) → IsReachable g sources y → IsTrue (m y)
IsClosed-reachable g sources m closed y r =
    closed_path g sources m closed r.0 r.1 y (closed.from_sources r.0 r.2 r.3) r.4

pub reached_is_reachable : ReachedByPath
unfolding reached_nodes
reached_is_reachable g sources y = (
  reachable_within g sources (length g.nodes) y,
  IsClosed-reachable g sources (has_id (reached_nodes g sources)) (reached_nodes-closed g sources) y,
)

-- A closed test that passes reachable nodes alone passes exactly what is reached.
pub IsClosed-is_reached : (g : Graph) (sources : List ℕ) (m : ℕ → Bool) → IsClosed g sources m → ((y : ℕ) → IsTrue (m y) → IsReachable g sources y) → (y : ℕ) → m y ≡ has_id (reached_nodes g sources) y
IsClosed-is_reached g sources m closed with_only y =
    same_from_decides (m y) (has_id (reached_nodes g sources) y) (with_only y, IsClosed-reachable g sources m closed y) (reached_is_reachable g sources y)

-- A node that is reached is a source, or an edge leads to it from a passable node that is reached.
pub reached_nodes-last : (g : Graph) (sources : List ℕ) (y : ℕ) → IsTrue (has_id (reached_nodes g sources) y) →
    IsTrue (has_id sources y || list_any (λ x. g.passable x && has_id (g.targets x) y) (reached_nodes g sources))
reached_nodes-last g sources y at =
    let found = reached_nodes g sources in
    let arrived = λ (z : ℕ). has_id sources z || list_any (λ x. g.passable x && has_id (g.targets x) z) found in
    let m = λ (z : ℕ). has_id g.nodes z && arrived z in
    let closed_found = reached_nodes-closed g sources in
    let is_found = λ (z : ℕ) (passes : IsTrue (m z)).
    let both = and_parts _ _ passes in
    let found_at : IsTrue (has_id found z) =
    ⊎_elim
    (λ source. closed_found.from_sources z source both.0)
    (λ beyond.
    let step = has_id-from_list_any (λ x. g.passable x && has_id (g.targets x) z) found beyond in
    let edge = and_parts _ _ step.2 in
    closed_found.along_edges step.0 z step.1 edge.0 (edge.1, both.0))
    (or_cases _ _ both.1) in
    found_at in
    let closed : IsClosed g sources m = record {
      from_sources = λ z source node. and_from _ _ node (or_left _ _ source);
      along_edges = λ x z passes passable edge.
          and_from _ _ edge.1 (or_right _ _ (list_any-from_has_id (λ u. g.passable u && has_id (g.targets u) z) found x (is_found x passes) (and_from _ _ passable edge.0)));
    } in
    (and_parts _ _ (IsClosed-reachable g sources m closed y ((reached_is_reachable g sources y).0 at))).1
