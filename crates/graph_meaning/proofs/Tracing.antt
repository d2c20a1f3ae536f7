-- What is traced: by owners and by roots, by references, and by levels.
use Rattle.std.proofs.Common.{◌≡◌, ℕ, Bool, true, false, not, ◌&&◌, ◌||◌, ⊎_elim, List, filter, sym, ap, refl, ◌∙◌, IsTrue, ◌==◌}
use Rattle.std.specs.List.{list_any, flat_map}
use Rattle.std.proofs.lemmas.Bool.{cases_Bool, or_cases, or_left, or_right, and_parts, and_from, false≢true}
use Rattle.graph_meaning.specs.Heap.{Table, Heap, ids, edges, targets}
use Rattle.graph_meaning.specs.Reach.{Graph, has_id, reached_nodes}
use Rattle.graph_meaning.specs.Assertions.{is_owned, by_root, by_slot, open_graph, object_graph, root_graph, root_ids, is_owner, owner_ids}
use Rattle.graph_meaning.specs.Assertions.{owner_targets, under_owners, root_traced, is_traced, is_met, scanned_ids, roots_to, slots_to, references}
use Rattle.graph_meaning.specs.Laws.{TracedIsReached, TracedIsReferredTo, MetHasLevel}
use Rattle.graph_meaning.proofs.Membership.{has_id-filter, list_any-from_has_id, has_id-from_list_any, list_any-map, list_any-flat_map}
use Rattle.graph_meaning.proofs.Membership.{list_any_agree, is_some_list, is_some_list-length, is_some_list-append, is_some_list-map}
use Rattle.graph_meaning.proofs.Membership.{is_some_list-filter, is_some_list-flat_map}
use Rattle.graph_meaning.proofs.Reaching.{IsClosed, reached_is_reachable, reached_nodes-closed, reached_nodes-in_nodes, reached_nodes-last, IsClosed-reachable}
use Rattle.graph_meaning.proofs.HeapLemmas.{has_id-ids}
use Rattle.graph_meaning.proofs.Distances.{same_bools, is_some-distance}

-- a closed test passes what is reached
passes_reached : (g : Graph) (sources : List ℕ) (m : ℕ → Bool) → IsClosed g sources m → (y : ℕ) → IsTrue (has_id (reached_nodes g sources) y) → IsTrue (m y)
passes_reached g sources m closed y at = IsClosed-reachable g sources m closed y ((reached_is_reachable g sources y).0 at)

module _ (h : Heap) where
  abbrev root_reached : ℕ → Bool
  root_reached x = has_id (reached_nodes (object_graph h.table) (root_ids h.table)) x

  abbrev under : ℕ → Bool
  under x = has_id (under_owners h) x

  abbrev rooted : ℕ → Bool
  rooted x = has_id (root_traced h) x

  -- ---- under owners

  under_closed : IsClosed (object_graph h.table) (owner_targets h) under
  unfolding under_owners
  under_closed = reached_nodes-closed (object_graph h.table) (owner_targets h)

  under_node : (x : ℕ) → IsTrue (under x) → IsTrue (has_id (ids h.table) x)
  unfolding under_owners
  under_node x at = reached_nodes-in_nodes (object_graph h.table) (owner_targets h) x at

  under_along : (x y : ℕ) → IsTrue (under x) → IsTrue (has_id (targets h.table x) y) → IsTrue (has_id (ids h.table) y) → IsTrue (under y)
  under_along x y at held node = under_closed.along_edges x y at refl (held, node)

  -- what an owner holds is under owners
  under_from_owner : (x y : ℕ) → IsTrue (is_owner h x) → IsTrue (has_id (ids h.table) x) → IsTrue (has_id (targets h.table x) y) → IsTrue (has_id (ids h.table) y) → IsTrue (under y)
  under_from_owner x y owner object held node =
      let owned : IsTrue (has_id (owner_ids h) x) = has_id-filter (is_owner h) (ids h.table) x ∙ and_from _ _ owner object in
      let source : IsTrue (has_id (owner_targets h) y) =
      list_any-flat_map (λ z. z == y) (targets h.table) (owner_ids h) ∙ list_any-from_has_id (λ z. has_id (targets h.table z) y) (owner_ids h) x owned held in
      under_closed.from_sources y source node

  -- ---- root traced

  rooted_closed : IsClosed (root_graph h) (root_ids h.table) rooted
  unfolding root_traced
  rooted_closed = reached_nodes-closed (root_graph h) (root_ids h.table)

  root_node : (x : ℕ) → under x ≡ false → IsTrue (has_id (ids h.table) x) → IsTrue (has_id (root_graph h).nodes x)
  root_node x out node = has_id-filter (λ z. not (under z)) (ids h.table) x ∙ and_from _ _ (ap not out) node

  from_root_node : (x : ℕ) → IsTrue (has_id (root_graph h).nodes x) → IsTrue (not (under x)) × IsTrue (has_id (ids h.table) x)
  from_root_node x node = and_parts _ _ (sym (has_id-filter (λ z. not (under z)) (ids h.table) x) ∙ node)

  rooted_node : (x : ℕ) → IsTrue (rooted x) → IsTrue (not (under x)) × IsTrue (has_id (ids h.table) x)
  unfolding root_traced
  rooted_node x at = from_root_node x (reached_nodes-in_nodes (root_graph h) (root_ids h.table) x at)

  not_both : (b : Bool) → IsTrue (not b) → IsTrue b → {A : Type 0} → A
  not_both true fails passes = absurd (false≢true fails)
  not_both false fails passes = absurd (false≢true passes)

  -- A closed test of a subgraph: what passes is under owners or root traced.
  pub traced_from_root : (x : ℕ) → IsTrue (has_id (root_ids h.table) x) → IsTrue (has_id (ids h.table) x) → IsTrue (is_traced h x)
  traced_from_root x named node =
      ⊎_elim
      (λ in_owned. or_left _ _ in_owned)
      (λ out. or_right _ _ (rooted_closed.from_sources x named (root_node x out node)))
      (cases_Bool (under x))

  pub traced_along : (x y : ℕ) → IsTrue (is_traced h x) → IsTrue (has_id (targets h.table x) y) → IsTrue (has_id (ids h.table) y) → IsTrue (is_traced h y)
  traced_along x y at held node =
      ⊎_elim
      (λ in_owned. or_left _ _ (under_along x y in_owned held node))
      (λ by_root. ⊎_elim
      (λ in_owned. or_left _ _ in_owned)
      (λ out. or_right _ _ (rooted_closed.along_edges x y by_root refl (held, root_node y out node)))
      (cases_Bool (under y)))
      (or_cases _ _ at)

  traced_closed : IsClosed (object_graph h.table) (root_ids h.table) (is_traced h)
  traced_closed = record {
    from_sources = traced_from_root;
    along_edges = λ x y at _ edge. traced_along x y at edge.0 edge.1;
  }

  pub traced_node : (x : ℕ) → IsTrue (is_traced h x) → IsTrue (has_id (ids h.table) x)
  traced_node x at = ⊎_elim (λ in_owned. under_node x in_owned) (λ by_root. (rooted_node x by_root).1) (or_cases _ _ at)

  -- what is root traced is reached
  rooted_reached : (x : ℕ) → IsTrue (rooted x) → IsTrue (root_reached x)
  unfolding root_traced
  rooted_reached x at =
      let all = reached_nodes-closed (object_graph h.table) (root_ids h.table) in
      passes_reached (root_graph h) (root_ids h.table) root_reached (record {
        from_sources = λ y named node. all.from_sources y named (from_root_node y node).1;
        along_edges = λ y z passes _ edge. all.along_edges y z passes refl (edge.0, (from_root_node z edge.1).1);
      }) x at

pub traced_is_reached : TracedIsReached
traced_is_reached h x =
    let t = h.table in
    same_bools _ _
    (λ at. ⊎_elim (λ owned. or_left _ _ owned) (λ by_root. or_right _ _ (rooted_reached h x by_root)) (or_cases _ _ at))
    (λ at. ⊎_elim (λ owned. or_left _ _ owned) (λ by_root. passes_reached (object_graph t) (root_ids t) (is_traced h) (traced_closed h) x by_root) (or_cases _ _ at))

-- ---- references

-- whether an edge leads to x from one of these
abbrev pub held_by : Table → List ℕ → ℕ → Bool
held_by t holders x = list_any (λ s. has_id (targets t s) x) holders

is_some-roots_to : (t : Table) (x : ℕ) → is_some_list (roots_to t x) ≡ has_id (root_ids t) x
is_some-roots_to t x =
    is_some_list-map (λ r. by_root r.0) (filter (λ r. r.1 == x) t.roots) ∙ is_some_list-filter (λ r. r.1 == x) t.roots ∙ sym (list_any-map (λ y. y == x) (λ r. r.1) t.roots)

is_some-slots_to : (t : Table) (x s : ℕ) → is_some_list (slots_to t x s) ≡ has_id (targets t s) x
is_some-slots_to t x s =
    is_some_list-map (λ e. by_slot s e.0) (filter (λ e. e.1 == x) (edges t s)) ∙ is_some_list-filter (λ e. e.1 == x) (edges t s) ∙ sym (list_any-map (λ y. y == x) (λ e. e.1) (edges t s))

pub is_some-references : (h : Heap) (x : ℕ) → is_some_list (references h x) ≡ (has_id (root_ids h.table) x || held_by h.table (scanned_ids h) x)
unfolding references
is_some-references h x =
    is_some_list-append (roots_to h.table x) (flat_map (slots_to h.table x) (scanned_ids h))
    ∙ ap (λ b. b || is_some_list (flat_map (slots_to h.table x) (scanned_ids h))) (is_some-roots_to h.table x)
    ∙ ap (λ b. has_id (root_ids h.table) x || b) (is_some_list-flat_map (slots_to h.table x) (scanned_ids h) ∙ list_any_agree _ _ (is_some-slots_to h.table x) (scanned_ids h))

module _ (h : Heap) where
  scanned : (s : ℕ) → IsTrue (has_id (ids h.table) s) → IsTrue (is_traced h s || is_owner h s) → IsTrue (has_id (scanned_ids h) s)
  scanned s node counts = has_id-filter (λ z. is_traced h z || is_owner h z) (ids h.table) s ∙ and_from _ _ counts node

  -- what an edge from a traced object or an owner leads to is held
  held_from : (s x : ℕ) → IsTrue (has_id (ids h.table) s) → IsTrue (is_traced h s || is_owner h s) → IsTrue (has_id (targets h.table s) x) → IsTrue (held_by h.table (scanned_ids h) x)
  held_from s x node counts held = list_any-from_has_id (λ z. has_id (targets h.table z) x) (scanned_ids h) s (scanned s node counts) held

  -- what is under owners is held
  under_held : (x : ℕ) → IsTrue (under h x) → IsTrue (held_by h.table (scanned_ids h) x)
  unfolding under_owners
  under_held x at =
      ⊎_elim
      (λ source.
      let owner = has_id-from_list_any (λ z. has_id (targets h.table z) x) (owner_ids h) (sym (list_any-flat_map (λ z. z == x) (targets h.table) (owner_ids h)) ∙ source) in
      let both = and_parts _ _ (sym (has_id-filter (is_owner h) (ids h.table) owner.0) ∙ owner.1) in
      held_from owner.0 x both.1 (or_right _ _ both.0) owner.2)
      (λ beyond.
      let step = has_id-from_list_any (λ z. true && has_id (targets h.table z) x) (under_owners h) beyond in
      held_from step.0 x (under_node h step.0 step.1) (or_left _ _ (or_left _ _ step.1)) step.2)
      (or_cases _ _ (reached_nodes-last (object_graph h.table) (owner_targets h) x at))

  rooted_held : (x : ℕ) → IsTrue (rooted h x) → IsTrue (has_id (root_ids h.table) x || held_by h.table (scanned_ids h) x)
  unfolding root_traced
  rooted_held x at =
      ⊎_elim
      (λ named. or_left _ _ named)
      (λ beyond.
      let step = has_id-from_list_any (λ z. true && has_id (targets h.table z) x) (root_traced h) beyond in
      or_right _ _ (held_from step.0 x (rooted_node h step.0 step.1).1 (or_left _ _ (or_right _ _ step.1)) step.2))
      (or_cases _ _ (reached_nodes-last (root_graph h) (root_ids h.table) x at))

  traced_referred : (x : ℕ) → IsTrue (is_traced h x) → IsTrue (has_id (root_ids h.table) x || held_by h.table (scanned_ids h) x)
  traced_referred x at = ⊎_elim (λ owned. or_right _ _ (under_held x owned)) (rooted_held x) (or_cases _ _ at)

  referred_traced : (x : ℕ) → IsTrue (has_id (ids h.table) x) → IsTrue (has_id (root_ids h.table) x || held_by h.table (scanned_ids h) x) → IsTrue (is_traced h x)
  referred_traced x node referred =
      ⊎_elim
      (λ named. traced_from_root h x named node)
      (λ held.
      let step = has_id-from_list_any (λ z. has_id (targets h.table z) x) (scanned_ids h) held in
      let both = and_parts _ _ (sym (has_id-filter (λ z. is_traced h z || is_owner h z) (ids h.table) step.0) ∙ step.1) in
      ⊎_elim
      (λ at. traced_along h step.0 x at step.2 node)
      (λ owner. or_left _ _ (under_from_owner h step.0 x owner both.1 step.2 node))
      (or_cases _ _ both.0))
      (or_cases _ _ referred)

pub traced_is_referred_to : TracedIsReferredTo
traced_is_referred_to h x live =
    let counted = is_some_list-length (references h x) in (
      λ some. referred_traced h x (has_id-ids h.table x ∙ live) (sym (is_some-references h x) ∙ counted.0 some),
      λ at. counted.1 (is_some-references h x ∙ traced_referred h x at),
    )

-- ---- what the root phase meets

module _ (h : Heap) where
  abbrev unowned_graph : Graph
  unowned_graph = open_graph h.table (is_owned h)

  abbrev unowned : ℕ → Bool
  unowned x = has_id (reached_nodes unowned_graph (root_ids h.table)) x

  -- what is reached by no owner is root traced, unless it is under owners
  unowned_rooted : (x : ℕ) → IsTrue (unowned x) → IsTrue (is_traced h x)
  unowned_rooted x at = passes_reached unowned_graph (root_ids h.table) (is_traced h) (record {
    from_sources = traced_from_root h;
    along_edges = λ y z passes _ edge. traced_along h y z passes edge.0 edge.1;
  }) x at

  unowned_node : (x : ℕ) → IsTrue (unowned x) → IsTrue (has_id (ids h.table) x)
  unowned_node x at = reached_nodes-in_nodes unowned_graph (root_ids h.table) x at

  -- a root traced object is reached through objects that aren't under owners or owners
  rooted_unowned : (x : ℕ) → IsTrue (rooted h x) → IsTrue (unowned x)
  unfolding root_traced
  rooted_unowned x at =
      let found = reached_nodes-closed unowned_graph (root_ids h.table) in
      (and_parts _ _ (passes_reached (root_graph h) (root_ids h.table) (λ y. unowned y && not (under h y)) (record {
        from_sources = λ y named node.
            let both = from_root_node h y node in and_from _ _ (found.from_sources y named both.1) both.0;
        along_edges = λ y z passes _ edge.
            let here = and_parts _ _ passes in
            let there = from_root_node h z edge.1 in
            and_from _ _ (found.along_edges y z here.0 (no_owner y z (unowned_node y here.0) here.1 edge.0 there.1 there.0) (edge.0, there.1)) there.0;
      }) x at)).0
    where
      open_from : (b c : Bool) → IsTrue (not b) → (IsTrue c → IsTrue b) → IsTrue (not (b || c))
      open_from true c out owner_leads = absurd (false≢true out)
      open_from false true out owner_leads = absurd (false≢true (owner_leads refl))
      open_from false false out owner_leads = refl

      -- an owner's edges lead under owners
      no_owner : (y z : ℕ) → IsTrue (has_id (ids h.table) y) → IsTrue (not (under h y)) → IsTrue (has_id (targets h.table y) z) →
          IsTrue (has_id (ids h.table) z) → IsTrue (not (under h z)) → IsTrue (not (is_owned h y))
      no_owner y z object out held node beyond =
          open_from (under h y) (is_owner h y) out (λ owner. not_both h (under h z) beyond (under_from_owner h y z owner object held node))

  met_reached : (e : ℕ) → IsTrue (has_id (ids h.table) e) → IsTrue (is_met h e) → IsTrue (unowned e)
  unfolding is_met
  met_reached e node met =
      let found = reached_nodes-closed unowned_graph (root_ids h.table) in
      ⊎_elim
      (λ named. found.from_sources e named node)
      (λ held.
      let step = has_id-from_list_any (λ x. not (is_owner h x) && has_id (targets h.table x) e) (root_traced h) held in
      let both = and_parts _ _ step.2 in
      found.along_edges step.0 e (rooted_unowned step.0 step.1) (neither (under h step.0) (is_owner h step.0) (rooted_node h step.0 step.1).0 both.0) (both.1, node))
      (or_cases _ _ met)
    where
      neither : (b c : Bool) → IsTrue (not b) → IsTrue (not c) → IsTrue (not (b || c))
      neither true c out other = absurd (false≢true out)
      neither false true out other = absurd (false≢true other)
      neither false false out other = refl

  reached_met : (e : ℕ) → IsTrue (unowned e) → IsTrue (is_met h e)
  unfolding is_met
  reached_met e at =
      ⊎_elim
      (λ named. or_left _ _ named)
      (λ beyond.
      let step = has_id-from_list_any (λ x. unowned_graph.passable x && has_id (targets h.table x) e) (reached_nodes unowned_graph (root_ids h.table)) beyond in
      let both = and_parts _ _ step.2 in
      let out = parts (under h step.0) (is_owner h step.0) both.0 in
      let at_root : IsTrue (rooted h step.0) =
      ⊎_elim (λ owned. not_both h (under h step.0) out.0 owned) (λ by_root. by_root) (or_cases _ _ (unowned_rooted step.0 step.1)) in
      or_right _ _ (list_any-from_has_id (λ x. not (is_owner h x) && has_id (targets h.table x) e) (root_traced h) step.0 at_root (and_from _ _ out.1 both.1)))
      (or_cases _ _ (reached_nodes-last unowned_graph (root_ids h.table) e at))
    where
      parts : (b c : Bool) → IsTrue (not (b || c)) → IsTrue (not b) × IsTrue (not c)
      parts true c out = absurd (false≢true out)
      parts false true out = absurd (false≢true out)
      parts false false out = (refl, refl)

pub met_has_level : MetHasLevel
met_has_level h e live =
    let node : IsTrue (has_id (ids h.table) e) = has_id-ids h.table e ∙ live in
    same_bools (is_met h e) _ (met_reached h e node) (reached_met h e) ∙ sym (is_some-distance (unowned_graph h) (root_ids h.table) e)
