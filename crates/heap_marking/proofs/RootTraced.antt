-- What is traced, step by step, and where a number stands in a list that has a sum.
use Rattle.std.proofs.Common.{◌≡◌, ℕ, ◌≤◌, Bool, true, false, ⊎_elim, List, [], ◌∷◌, sym, refl, ap, ◌∙◌, arith, eqb, eqb-true}
use Rattle.std.specs.List.{flat_map}
use Rattle.std.proofs.lemmas.Bool.{cases_Bool, false≢true, or_cases, or_left, or_right, not_from_false, not-true}
use Rattle.std.proofs.lemmas.Bool.Decides.{same_from_decides}
use Rattle.heap_base.specs.Counting.{is_positive, total, times}
use Rattle.heap_base.proofs.Counting.{is_positive-from, is_positive-true}
use Rattle.graph_meaning.specs.Reach.{has_id}
use Rattle.graph_meaning.proofs.Membership.{list_any-flat_map, has_id-from_list_any}
use Rattle.graph_meaning.proofs.Reaching.{IsClosed, reached_nodes-closed, reached_nodes-in_nodes, IsClosed-reachable, reached_is_reachable}
use Rattle.scan_job.specs.Graphs.{StoppedGraph, IsWhole, whole_graph, owners, all_targets, is_under_owners, is_reached_by_roots}
use Rattle.scan_job.proofs.Fitting.{times-at, at-times}
use Rattle.scan_job.proofs.Reaching.{at-filter, filter-at, under-step}
use Rattle.heap_marking.specs.TracedCells.{free_graph, is_root_traced, is_traced}

pub has_id-times : (x : ℕ) (xs : List ℕ) → has_id xs x ≡ is_positive (times x xs)
has_id-times x xs =
    same_from_decides (has_id xs x) (is_positive (times x xs)) (λ at. is_positive-from _ (times-at x xs at), λ some. at-times x xs (is_positive-true _ some)) (λ e. e, λ e. e)

-- what f gives of an element is at most the sum
pub element_le-total : (f : ℕ → ℕ) (x : ℕ) (xs : List ℕ) → has_id xs x ≡ true → f x ≤ total f xs
element_le-total f x [] at = absurd (false≢true at)
element_le-total f x (y ∷ ys) at =
    ⊎_elim
    (λ here. let s : f y ≡ f x = ap f (eqb-true y x here) in omega arith)
    (λ later. let r = element_le-total f x ys later in omega arith)
    (or_cases _ _ at)

-- what stands in one of the lists of a map comes of some element
pub origin : (f : ℕ → List ℕ) (xs : List ℕ) (y : ℕ) → has_id (flat_map f xs) y ≡ true → (x : ℕ) × (has_id xs x ≡ true) × (has_id (f x) y ≡ true)
origin f xs y at =
    has_id-from_list_any (λ x. has_id (f x) y) xs (sym (list_any-flat_map (λ z. eqb z y) f xs) ∙ at)

module _ (g : StoppedGraph) where
  -- what is traced from the roots is under no owner
  pub root_traced-free : (x : ℕ) → is_root_traced g x ≡ true → is_under_owners g x ≡ false
  root_traced-free x at =
      not-true _ (filter-at _ g.nodes x (reached_nodes-in_nodes (free_graph g) g.roots x at)).0

  pub traced-node : (x : ℕ) → is_traced g x ≡ true → has_id g.nodes x ≡ true
  traced-node x at =
      ⊎_elim
      (λ under. reached_nodes-in_nodes (whole_graph g) (all_targets g (owners g)) x under)
      (λ rooted. (filter-at _ g.nodes x (reached_nodes-in_nodes (free_graph g) g.roots x rooted)).1)
      (or_cases _ _ at)

  module _ (w : IsWhole g) where
    -- what a root reaches is traced
    traced-closed : IsClosed (whole_graph g) g.roots (is_traced g)
    traced-closed = record {
      from_sources = λ x at node.
          ⊎_elim
          (λ under. or_left _ _ under)
          (λ free. or_right _ _ ((reached_nodes-closed (free_graph g) g.roots).from_sources x at (at-filter _ g.nodes x (not_from_false _ free) node)))
          (cases_Bool (is_under_owners g x));
      along_edges = λ x y at passes edge.
          ⊎_elim
          (λ under. or_left _ _ (under-step g w x y under edge.0))
          (λ rooted.
          ⊎_elim
          (λ under. or_left _ _ under)
          (λ free. or_right _ _ ((reached_nodes-closed (free_graph g) g.roots).along_edges x y rooted refl (edge.0, at-filter _ g.nodes y (not_from_false _ free) edge.1)))
          (cases_Bool (is_under_owners g y)))
          (or_cases _ _ at);
    }

    pub reached-traced : (x : ℕ) → is_reached_by_roots g x ≡ true → is_traced g x ≡ true
    reached-traced x at =
        IsClosed-reachable (whole_graph g) g.roots (is_traced g) traced-closed x ((reached_is_reachable (whole_graph g) g.roots x).0 at)

  -- A test that passes the roots, and what the slots of each object lead to that it passes, passes what is traced from the roots.
  pub root_traced-passes : (m : ℕ → Bool) → ((x : ℕ) → has_id g.roots x ≡ true → m x ≡ true) →
      ((x y : ℕ) → m x ≡ true → has_id (g.targets x) y ≡ true → m y ≡ true) → (x : ℕ) → is_root_traced g x ≡ true → m x ≡ true
  root_traced-passes m from along x at =
      IsClosed-reachable (free_graph g) g.roots m
      (record { from_sources = λ y named node. from y named; along_edges = λ y z it_is passes edge. along y z it_is edge.0 }) x
      ((reached_is_reachable (free_graph g) g.roots x).0 at)

  -- the same from the slots of the owners
  pub under-passes : (m : ℕ → Bool) → ((o y : ℕ) → g.is_owner o ≡ true → has_id (g.targets o) y ≡ true → m y ≡ true) →
      ((x y : ℕ) → m x ≡ true → has_id (g.targets x) y ≡ true → m y ≡ true) → (x : ℕ) → is_under_owners g x ≡ true → m x ≡ true
  under-passes m from along x at =
      IsClosed-reachable (whole_graph g) (all_targets g (owners g)) m
      (record {
        from_sources = λ y held node. (let o = origin g.targets (owners g) y held in from o.0 y (filter-at g.is_owner g.nodes o.0 o.1).0 o.2);
        along_edges = λ y z it_is passes edge. along y z it_is edge.0;
      }) x ((reached_is_reachable (whole_graph g) (all_targets g (owners g)) x).0 at)
