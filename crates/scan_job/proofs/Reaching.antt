-- What is under owners, found or reached, step by step.
use Rattle.std.proofs.Common.{◌≡◌, ℕ, Bool, true, ⊎_elim, List, [], ◌∷◌, filter, sym, refl, ap, ◌∙◌, eqb-true, eq-eqb}
use Rattle.std.specs.List.{flat_map}
use Rattle.std.proofs.lemmas.Bool.{false≢true, or_cases, or_left, or_right, and_parts, and_from}
use Rattle.graph_meaning.specs.Reach.{has_id}
use Rattle.graph_meaning.proofs.Membership.{has_id-filter, has_id-append}
use Rattle.graph_meaning.proofs.Reaching.{reached_nodes-closed, IsClosed-reachable, reached_is_reachable}
use Rattle.scan_job.specs.Graphs.{StoppedGraph, IsWhole, whole_graph, inner_graph, owners, all_targets, is_under_owners, is_found_from, is_reached_by_roots}
use Rattle.scan_job.specs.Laws.{FoundByPath, UnderOwnersByPath}

pub has_id-flat_map : (f : ℕ → List ℕ) (xs : List ℕ) (x y : ℕ) → has_id xs x ≡ true → has_id (f x) y ≡ true → has_id (flat_map f xs) y ≡ true
has_id-flat_map f [] x y at within = absurd (false≢true at)
has_id-flat_map f (z ∷ xs) x y at within =
    has_id-append (f z) (flat_map f xs) y
    ∙ ⊎_elim
    (λ here. or_left _ _ (ap (λ w. has_id (f w) y) (eqb-true z x here) ∙ within))
    (λ later. or_right _ _ (has_id-flat_map f xs x y later within))
    (or_cases _ _ at)

flat_map-has_id : (f : ℕ → List ℕ) (xs : List ℕ) (y : ℕ) → has_id (flat_map f xs) y ≡ true → (x : ℕ) × (has_id xs x ≡ true) × (has_id (f x) y ≡ true)
flat_map-has_id f [] y at = absurd (false≢true at)
flat_map-has_id f (z ∷ xs) y at =
    ⊎_elim
    (λ here. (z, or_left _ _ (eq-eqb z z refl), here))
    (λ later. let r = flat_map-has_id f xs y later in (r.0, or_right _ _ r.1, r.2))
    (or_cases _ _ (sym (has_id-append (f z) (flat_map f xs) y) ∙ at))

-- into a filter, and out of it
pub at-filter : (p : ℕ → Bool) (xs : List ℕ) (x : ℕ) → p x ≡ true → has_id xs x ≡ true → has_id (filter p xs) x ≡ true
at-filter p xs x passes at = has_id-filter p xs x ∙ and_from _ _ passes at

pub filter-at : (p : ℕ → Bool) (xs : List ℕ) (x : ℕ) → has_id (filter p xs) x ≡ true → (p x ≡ true) × (has_id xs x ≡ true)
filter-at p xs x at = and_parts _ _ (sym (has_id-filter p xs x) ∙ at)

module _ (g : StoppedGraph) (w : IsWhole g) where
  -- what an owner's slot leads to is under owners
  pub under-owner : (o y : ℕ) → g.is_owner o ≡ true → has_id (g.targets o) y ≡ true → is_under_owners g y ≡ true
  under-owner o y owner at =
      (reached_nodes-closed (whole_graph g) (all_targets g (owners g))).from_sources y
      (has_id-flat_map g.targets (owners g) o y (at-filter g.is_owner g.nodes o owner (w.owners o owner)) at)
      (w.edges o y at)

  pub under-step : (x y : ℕ) → is_under_owners g x ≡ true → has_id (g.targets x) y ≡ true → is_under_owners g y ≡ true
  under-step x y under at =
      (reached_nodes-closed (whole_graph g) (all_targets g (owners g))).along_edges x y under refl (at, w.edges x y at)

  pub root-reached : (x : ℕ) → has_id g.roots x ≡ true → is_reached_by_roots g x ≡ true
  root-reached x at = (reached_nodes-closed (whole_graph g) g.roots).from_sources x at (w.named x at)

  pub root-step : (x y : ℕ) → is_reached_by_roots g x ≡ true → has_id (g.targets x) y ≡ true → is_reached_by_roots g y ≡ true
  root-step x y reached at =
      (reached_nodes-closed (whole_graph g) g.roots).along_edges x y reached refl (at, w.edges x y at)

  -- what an owner finds is under owners
  pub found-under : (o x : ℕ) → g.is_owner o ≡ true → is_found_from g o x ≡ true → is_under_owners g x ≡ true
  found-under o x owner at =
      IsClosed-reachable (inner_graph g) (g.targets o) (is_under_owners g)
      (record { from_sources = λ y leads node. under-owner o y owner leads; along_edges = λ y z under passes edge. under-step y z under edge.0 }) x
      ((reached_is_reachable (inner_graph g) (g.targets o) x).0 at)

-- ---- in terms of paths

pub found-by_path : FoundByPath
found-by_path g o x =
    let both = reached_is_reachable (inner_graph g) (g.targets o) x in
    (λ at. let r = both.0 at in (r.0, r.1, (r.2, r.3), r.4), λ f. both.1 (f.0, f.1, f.2.0, f.2.1, f.3))

pub under_owners-by_path : UnderOwnersByPath
under_owners-by_path g w x =
    let both = reached_is_reachable (whole_graph g) (all_targets g (owners g)) x in (
      λ at. let r = both.0 at in let o = flat_map-has_id g.targets (owners g) r.0 r.2 in (o.0, r.0, r.1, (filter-at g.is_owner g.nodes o.0 o.1).0, (refl, (o.2, r.3), r.4)),
      λ u. both.1 (u.1, u.2, has_id-flat_map g.targets (owners g) u.0 u.1 (at-filter g.is_owner g.nodes u.0 u.3 (w.owners u.0 u.3)) u.4.1.0, u.4.1.1, u.4.2),
    )
