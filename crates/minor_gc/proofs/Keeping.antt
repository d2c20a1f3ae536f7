-- A minor collection beside a full one.
use Rattle.std.proofs.Common.{◌≡◌, ◌==◌, ℕ, ◌≤◌, List, [], ◌∷◌, filter, Bool, true, false, not, ◌||◌, IsTrue, suc, eqb-true, refl, sym, ◌∙◌, ap, subst, ⊎_elim, arith}
use Rattle.std.specs.List.{All, flat_map}
use Rattle.std.specs.Prelude.{nat_lt}
use Rattle.std.proofs.lemmas.Bool.{false≢true, or_left, or_right, or_cases, and_parts, and_from, le-ltb}
use Rattle.graph_meaning.specs.Heap.{Table, ids, is_live, targets}
use Rattle.graph_meaning.specs.Reach.{has_id, IsPath, HasEdge}
use Rattle.graph_meaning.specs.Assertions.{object_graph, root_ids}
use Rattle.graph_meaning.specs.Laws.{IdsRise}
use Rattle.graph_meaning.specs.Collecting.{with_only}
use Rattle.graph_meaning.proofs.HeapLemmas.{has_id-ids, is_live-with_only}
use Rattle.graph_meaning.proofs.Membership.{has_id-filter, has_id-append, list_any-flat_map, list_any-from_has_id}
use Rattle.graph_meaning.proofs.Reaching.{reached_nodes-closed, reached_is_reachable}
use Rattle.minor_gc.specs.Generations.{Generations, is_young, is_old, young_graph, young_starts, young_kept, kept_by_minor, kept_by_full}
use Rattle.minor_gc.specs.Laws.{MinorKeepsMore, MinorKeepsOld, NoneYoungAfter}

-- what is kept is live then
pub live_kept : (kept : List ℕ) (t : Table) (x : ℕ) → IsTrue (is_live (with_only kept t) x) → IsTrue (has_id kept x) × IsTrue (is_live t x)
live_kept kept t x live = let both = and_parts _ _ (sym (is_live-with_only kept t x) ∙ live) in (both.0, both.1)

kept_live : (kept : List ℕ) (t : Table) (x : ℕ) → IsTrue (has_id kept x) → IsTrue (is_live t x) → IsTrue (is_live (with_only kept t) x)
kept_live kept t x has live = is_live-with_only kept t x ∙ and_from (has_id kept x) (is_live t x) has live

module _ (g : Generations) where
  -- kept by a minor collection is exactly what is old or reached over young objects
  pub in_minor : (x : ℕ) → IsTrue (is_live g.table x) → IsTrue (is_old g x || has_id (young_kept g) x) → IsTrue (has_id (kept_by_minor g) x)
  unfolding kept_by_minor
  in_minor x live stays = has_id-filter (λ y. is_old g y || has_id (young_kept g) y) (ids g.table) x ∙ and_from _ _ stays (has_id-ids g.table x ∙ live)

  -- a live young object is a node
  young_node : (x : ℕ) → is_young g x ≡ true → IsTrue (is_live g.table x) → IsTrue (has_id (young_graph g).nodes x)
  young_node x young live = has_id-filter (is_young g) (ids g.table) x ∙ and_from _ _ young (has_id-ids g.table x ∙ live)

  -- what an old object holds is a start
  pub held_by_old : (x y : ℕ) → is_young g x ≡ false → IsTrue (is_live g.table x) → IsTrue (has_id (targets g.table x) y) → IsTrue (has_id (young_starts g) y)
  held_by_old x y old live holds =
      let among : has_id (filter (is_old g) (ids g.table)) x ≡ true = has_id-filter (is_old g) (ids g.table) x ∙ and_from _ _ (ap not old) (has_id-ids g.table x ∙ live) in
      let held = list_any-from_has_id (λ z. has_id (targets g.table z) y) (filter (is_old g) (ids g.table)) x among holds in
      has_id-append (root_ids g.table) (flat_map (targets g.table) (filter (is_old g) (ids g.table))) y
      ∙ or_right _ _ (list_any-flat_map (λ z. z == y) (targets g.table) (filter (is_old g) (ids g.table)) ∙ held)

  abbrev pub Stays : ℕ → Type 0
  Stays x = IsTrue (is_old g x || has_id (young_kept g) x)

  -- a young object that is a start stays
  pub start_stays : (x : ℕ) → IsTrue (is_live g.table x) → IsTrue (has_id (young_starts g) x) → Stays x
  unfolding young_kept
  start_stays x live start = go (is_young g x) refl
    where
      go : (b : Bool) → is_young g x ≡ b → IsTrue (is_old g x || has_id (young_kept g) x)
      go false old = or_left _ _ (ap not old)
      go true young = or_right _ _ ((reached_nodes-closed (young_graph g) (young_starts g)).from_sources x start (young_node x young live))

  -- what an object that stays holds stays
  pub edge_stays : (x y : ℕ) → IsTrue (is_live g.table x) → Stays x → HasEdge (object_graph g.table) x y → Stays y
  unfolding young_kept
  edge_stays x y live stays edge = go (is_young g y) refl (is_young g x) refl
    where
      live_y : IsTrue (is_live g.table y)
      live_y = sym (has_id-ids g.table y) ∙ edge.1

      reached : (b : Bool) → is_young g x ≡ b → IsTrue (not b || has_id (young_kept g) x) → b ≡ true → IsTrue (has_id (young_kept g) x)
      reached true e stays is = stays
      reached false e stays is = absurd (false≢true is)

      go : (b : Bool) → is_young g y ≡ b → (c : Bool) → is_young g x ≡ c → IsTrue (is_old g y || has_id (young_kept g) y)
      go false old c e = or_left _ _ (ap not old)
      go true young false old = start_stays y live_y (held_by_old x y old live edge.0)
      go true young true also = or_right _ _ ((reached_nodes-closed (young_graph g) (young_starts g)).along_edges x y (reached (is_young g x) refl stays also) refl (edge.0, young_node y young live_y))

  path_stays : (steps : List ℕ) (x y : ℕ) → IsTrue (is_live g.table x) → Stays x → IsPath (object_graph g.table) x steps y → Stays y
  path_stays [] x y live stays path = subst Stays path stays
  path_stays (z ∷ steps) x y live stays path =
      path_stays steps z y (sym (has_id-ids g.table z) ∙ path.1.1) (edge_stays x z live stays path.1) path.2

  pub full_stays : (x : ℕ) → IsTrue (has_id (kept_by_full g) x) → Stays x
  unfolding kept_by_full
  full_stays x kept =
      let r = (reached_is_reachable (object_graph g.table) (root_ids g.table) x).0 kept in
      let live : IsTrue (is_live g.table r.0) = sym (has_id-ids g.table r.0) ∙ r.3 in
      path_stays r.1 r.0 x live (start_stays r.0 live (has_id-append (root_ids g.table) (flat_map (targets g.table) (filter (is_old g) (ids g.table))) r.0 ∙ or_left _ _ r.2)) r.4

pub minor_keeps_more : MinorKeepsMore
minor_keeps_more g x live =
    let both = live_kept (kept_by_full g) g.table x live in
    kept_live (kept_by_minor g) g.table x (in_minor g x both.1 (full_stays g x both.0)) both.1

pub minor_keeps_old : MinorKeepsOld
minor_keeps_old g x live old = kept_live (kept_by_minor g) g.table x (in_minor g x live (or_left _ _ (ap not old))) live

-- what holds of each number of a list
pub all_has : (P : ℕ → Type 0) (xs : List ℕ) → All P xs → (x : ℕ) → IsTrue (has_id xs x) → P x
all_has P [] all x has = absurd (false≢true has)
all_has P (y ∷ xs) all x has = ⊎_elim
    (λ here. subst P (eqb-true y x here) (all 0 y (omega arith)))
    (λ rest. all_has P xs (λ k d h. all (suc k) d (omega arith)) x rest)
    (or_cases _ _ has)

none_young : (kept : List ℕ) (g : Generations) (x : ℕ) → IdsRise g.table → IsTrue (is_live (with_only kept g.table) x) → nat_lt g.table.greatest x ≡ false
none_young kept g x rise live =
    let both = live_kept kept g.table x live in
    le-ltb g.table.greatest x (all_has (λ id. id ≤ g.table.greatest) (ids g.table) rise.within x (has_id-ids g.table x ∙ both.1))

pub none_young_after : NoneYoungAfter
none_young_after g x rise = (none_young (kept_by_minor g) g x rise, none_young (kept_by_full g) g x rise)
