-- What is reached and traced in one graph under other numbers.
use Rattle.std.proofs.Common.{◌≡◌, ℕ, Bool, true, ◌&&◌, ◌||◌, not, cond, ⊎_elim, List, [], ◌∷◌, map, sym, refl, ap, ◌∙◌, arith, eqb, eqb-true, eq-eqb, IsTrue}
use Rattle.std.proofs.lemmas.Bool.{or_cases, or_left, or_right, and_parts, and_from}
use Rattle.std.proofs.lemmas.Bool.Decides.{same_from_decides}
use Rattle.std.specs.List.{list_any}
use Rattle.heap_base.specs.Counting.{bit, total, AsOften, times}
use Rattle.heap_base.proofs.Counting.{total-map, total-filter}
use Rattle.graph_meaning.specs.Reach.{Graph, has_id, reached_nodes}
use Rattle.graph_meaning.proofs.Membership.{has_id-filter, list_any-map, list_any-from_has_id, has_id-from_list_any}
use Rattle.graph_meaning.proofs.Reaching.{IsClosed, reached_nodes-closed, reached_nodes-in_nodes, IsClosed-reachable, reached_is_reachable}
use Rattle.scan_job.specs.Graphs.{StoppedGraph, IsWhole, whole_graph, inner_graph, owners, all_targets, is_under_owners, is_found_from}
use Rattle.scan_job.specs.Scans.{kind_count}
use Rattle.scan_job.proofs.Fitting.{times-at, at-times}
use Rattle.scan_job.proofs.Reaching.{at-filter, filter-at, has_id-flat_map}
use Rattle.heap_marking.specs.TracedCells.{free_graph, root_traced, is_root_traced, is_traced, traced_cells, is_met, slots_to, reference_count}
use Rattle.heap_marking.proofs.RootTraced.{origin}

-- sums of functions that agree at each element
pub total-same_on : (h k : ℕ → ℕ) (xs : List ℕ) → ((x : ℕ) → has_id xs x ≡ true → h x ≡ k x) → total h xs ≡ total k xs
total-same_on h k [] e = refl
total-same_on h k (x ∷ xs) e =
    let r = total-same_on h k xs (λ y at. e y (or_right _ _ at)) in
    let s = e x (or_left _ _ (eq-eqb x x refl)) in
    omega arith

-- what stands in a list stands in one that holds the same
pub often-at : (xs ys : List ℕ) → AsOften xs ys → (x : ℕ) → has_id xs x ≡ true → has_id ys x ≡ true
often-at xs ys same x at = at-times x ys (let l = times-at x xs at in let e = same (λ y. bit (eqb y x)) in omega arith)

pub map-at : (f : ℕ → ℕ) (xs : List ℕ) (x : ℕ) → has_id xs x ≡ true → has_id (map f xs) (f x) ≡ true
map-at f xs x at =
    list_any-map (λ w. eqb w (f x)) f xs ∙ list_any-from_has_id (λ y. eqb (f y) (f x)) xs x at (eq-eqb (f x) (f x) refl)

pub at-map : (f : ℕ → ℕ) (xs : List ℕ) (z : ℕ) → has_id (map f xs) z ≡ true → (x : ℕ) × (has_id xs x ≡ true) × (f x ≡ z)
at-map f xs z at =
    let s = has_id-from_list_any (λ y. eqb (f y) z) xs (sym (list_any-map (λ w. eqb w z) f xs) ∙ at) in
    (s.0, s.1, eqb-true (f s.0) z s.2)

-- how often a name stands in a list of names that are given once each
pub times-map : (base : ℕ → Bool) (f : ℕ → ℕ) → ((x y : ℕ) → base x ≡ true → base y ≡ true → f x ≡ f y → x ≡ y) → (xs : List ℕ) →
    ((y : ℕ) → has_id xs y ≡ true → base y ≡ true) → (x : ℕ) → base x ≡ true → times (f x) (map f xs) ≡ times x xs
times-map base f once xs are x b =
    total-map (λ z. bit (eqb z (f x))) f xs ∙ total-same_on (λ y. bit (eqb (f y) (f x))) (λ y. bit (eqb y x)) xs (λ y at. ap bit (same y (are y at)))
  where
    same : (y : ℕ) → base y ≡ true → eqb (f y) (f x) ≡ eqb y x
    same y c =
        same_from_decides _ _ (λ e. eq-eqb y x (once y x c b (eqb-true (f y) (f x) e)), λ e. eq-eqb (f y) (f x) (ap f (eqb-true y x e))) (λ e. e, λ e. e)

-- The graph k is d with each node x of the base named f x.
record Renames (base : ℕ → Bool) (f : ℕ → ℕ) (d k : Graph) : Type 0 where
  nodes : (x : ℕ) → base x ≡ true → has_id k.nodes (f x) ≡ has_id d.nodes x
  onto : (z : ℕ) → has_id k.nodes z ≡ true → (x : ℕ) × (base x ≡ true) × (f x ≡ z)
  based : (x : ℕ) → has_id d.nodes x ≡ true → base x ≡ true
  targets : (x : ℕ) → base x ≡ true → k.targets (f x) ≡ map f (d.targets x)
  edges : (x y : ℕ) → has_id (d.targets x) y ≡ true → base y ≡ true
  passes : (x : ℕ) → base x ≡ true → k.passable (f x) ≡ d.passable x
  once : (x y : ℕ) → base x ≡ true → base y ≡ true → f x ≡ f y → x ≡ y

module _ (base : ℕ → Bool) (f : ℕ → ℕ) (d k : Graph) (from to : List ℕ) (r : Renames base f d k) (same : (x : ℕ) → base x ≡ true → has_id to (f x) ≡ has_id from x) where
  based-at : (x : ℕ) → has_id (reached_nodes d from) x ≡ true → base x ≡ true
  based-at x at = r.based x (reached_nodes-in_nodes d from x at)

  there : (x : ℕ) → has_id (reached_nodes d from) x ≡ true → has_id (reached_nodes k to) (f x) ≡ true
  there x at =
      (and_parts _ _ (IsClosed-reachable d from (λ y. base y && has_id (reached_nodes k to) (f y))
      (record {
        from_sources = λ y source node.
            (let b = r.based y node in
            and_from _ _ b ((reached_nodes-closed k to).from_sources (f y) (same y b ∙ source) (r.nodes y b ∙ node)));
        along_edges = λ y z found passes edge.
            (let p = and_parts _ _ found in
            let b = r.based z edge.1 in
            and_from _ _ b
            ((reached_nodes-closed k to).along_edges (f y) (f z) p.1 (r.passes y p.0 ∙ passes)
            (ap (λ ts. has_id ts (f z)) (r.targets y p.0) ∙ map-at f (d.targets y) z edge.0, r.nodes z b ∙ edge.1)));
      })
      x
      ((reached_is_reachable d from x).0 at))).1

  -- some node of this name is reached
  abbrev named : ℕ → Bool
  named z = list_any (λ x. eqb (f x) z && has_id (reached_nodes d from) x) d.nodes

  name : (x : ℕ) → has_id (reached_nodes d from) x ≡ true → named (f x) ≡ true
  name x at = list_any-from_has_id (λ y. eqb (f y) (f x) && has_id (reached_nodes d from) y) d.nodes x (reached_nodes-in_nodes d from x at) (and_from _ _ (eq-eqb (f x) (f x) refl) at)

  unname : (z : ℕ) → named z ≡ true → (x : ℕ) × (f x ≡ z) × (has_id (reached_nodes d from) x ≡ true)
  unname z at =
      let s = has_id-from_list_any (λ x. eqb (f x) z && has_id (reached_nodes d from) x) d.nodes at in
      let p = and_parts _ _ s.2 in
      (s.0, eqb-true (f s.0) z p.0, p.1)

  named-closed : IsClosed k to named
  named-closed = record {
    from_sources = λ z source node.
        (let x = r.onto z node in
        let node-d = sym (r.nodes x.0 x.1) ∙ ap (has_id k.nodes) x.2 ∙ node in
        let source-d = sym (same x.0 x.1) ∙ ap (has_id to) x.2 ∙ source in
        ap named (sym x.2) ∙ name x.0 ((reached_nodes-closed d from).from_sources x.0 source-d node-d));
    along_edges = λ y z found passes edge.
        (let x = unname y found in
        let b = based-at x.0 x.2 in
        let e = at-map f (d.targets x.0) z (ap (λ ts. has_id ts z) (sym (r.targets x.0 b)) ∙ ap (λ w. has_id (k.targets w) z) x.1 ∙ edge.0) in
        let c = r.edges x.0 e.0 e.1 in
        let node-d = sym (r.nodes e.0 c) ∙ ap (has_id k.nodes) e.2 ∙ edge.1 in
        let passes-d = sym (r.passes x.0 b) ∙ ap k.passable x.1 ∙ passes in
        ap named (sym e.2) ∙ name e.0 ((reached_nodes-closed d from).along_edges x.0 e.0 x.2 passes-d (e.1, node-d)));
  }

  back : (x : ℕ) → base x ≡ true → has_id (reached_nodes k to) (f x) ≡ true → has_id (reached_nodes d from) x ≡ true
  back x b at =
      let n = unname (f x) (IsClosed-reachable k to named named-closed (f x) ((reached_is_reachable k to (f x)).0 at)) in
      ap (has_id (reached_nodes d from)) (sym (r.once n.0 x (based-at n.0 n.2) b n.1)) ∙ n.2

  reached-renamed : (x : ℕ) → base x ≡ true → has_id (reached_nodes k to) (f x) ≡ has_id (reached_nodes d from) x
  reached-renamed x b =
      same_from_decides (has_id (reached_nodes k to) (f x)) (has_id (reached_nodes d from) x) (back x b, there x) (λ e. e, λ e. e)

-- The graph h is g with each object named f x.
pub record IsRenamed (f : ℕ → ℕ) (g h : StoppedGraph) : Type 0 where
  pub nodes : AsOften h.nodes (map f g.nodes)
  pub targets : (x : ℕ) → IsTrue (has_id g.nodes x) → h.targets (f x) ≡ map f (g.targets x)
  pub roots : h.roots ≡ map f g.roots
  pub kind : (x : ℕ) → IsTrue (has_id g.nodes x) → h.kind (f x) ≡ g.kind x
  pub owner : (x : ℕ) → IsTrue (has_id g.nodes x) → h.is_owner (f x) ≡ g.is_owner x
  pub ownee : (x : ℕ) → IsTrue (has_id g.nodes x) → h.is_ownee (f x) ≡ g.is_ownee x
  pub once : (x y : ℕ) → IsTrue (has_id g.nodes x) → IsTrue (has_id g.nodes y) → f x ≡ f y → x ≡ y

module _ (f : ℕ → ℕ) (g h : StoppedGraph) (w : IsWhole g) (r : IsRenamed f g h) where
  abbrev pub base : ℕ → Bool
  base x = has_id g.nodes x

  pub node-there : (x : ℕ) → base x ≡ true → has_id h.nodes (f x) ≡ true
  node-there x at = often-at (map f g.nodes) h.nodes (λ k. sym (r.nodes k)) (f x) (map-at f g.nodes x at)

  pub node-back : (z : ℕ) → has_id h.nodes z ≡ true → (x : ℕ) × (base x ≡ true) × (f x ≡ z)
  node-back z at = at-map f g.nodes z (often-at h.nodes (map f g.nodes) r.nodes z at)

  nodes-same : (x : ℕ) → base x ≡ true → has_id h.nodes (f x) ≡ base x
  nodes-same x at = node-there x at ∙ sym at

  -- what stands in a list of objects stands under its name in the list of names
  in-map : (xs : List ℕ) → ((y : ℕ) → has_id xs y ≡ true → base y ≡ true) → (x : ℕ) → base x ≡ true → has_id (map f xs) (f x) ≡ true → has_id xs x ≡ true
  in-map xs are x b at =
      let s = at-map f xs (f x) at in ap (has_id xs) (sym (r.once s.0 x (are s.0 s.1) b s.2)) ∙ s.1

  pub slot-there : (s x : ℕ) → base s ≡ true → has_id (g.targets s) x ≡ true → has_id (h.targets (f s)) (f x) ≡ true
  slot-there s x b at = ap (λ ts. has_id ts (f x)) (r.targets s b) ∙ map-at f (g.targets s) x at

  pub slot-back : (s x : ℕ) → base s ≡ true → base x ≡ true → has_id (h.targets (f s)) (f x) ≡ true → has_id (g.targets s) x ≡ true
  slot-back s x b c at = in-map (g.targets s) (w.edges s) x c (ap (λ ts. has_id ts (f x)) (sym (r.targets s b)) ∙ at)

  slots-same : (s x : ℕ) → base s ≡ true → base x ≡ true → has_id (h.targets (f s)) (f x) ≡ has_id (g.targets s) x
  slots-same s x b c = same_from_decides _ _ (slot-back s x b c, slot-there s x b) (λ e. e, λ e. e)

  roots-same : (x : ℕ) → base x ≡ true → has_id h.roots (f x) ≡ has_id g.roots x
  roots-same x b =
      ap (λ xs. has_id xs (f x)) r.roots ∙ same_from_decides (has_id (map f g.roots) (f x)) (has_id g.roots x) (in-map g.roots w.named x b, map-at f g.roots x) (λ e. e, λ e. e)

  owned-same : (x : ℕ) → base x ≡ true → has_id (all_targets h (owners h)) (f x) ≡ has_id (all_targets g (owners g)) x
  owned-same x b = same_from_decides _ _ (back-to, from-there) (λ e. e, λ e. e)
    where
      back-to : has_id (all_targets h (owners h)) (f x) ≡ true → has_id (all_targets g (owners g)) x ≡ true
      back-to at =
          let o = origin h.targets (owners h) (f x) at in
          let p = filter-at h.is_owner h.nodes o.0 o.1 in
          let n = node-back o.0 p.1 in
          let owner = sym (r.owner n.0 n.1) ∙ ap h.is_owner n.2 ∙ p.0 in
          has_id-flat_map g.targets (owners g) n.0 x (at-filter g.is_owner g.nodes n.0 owner n.1) (slot-back n.0 x n.1 b (ap (λ z. has_id (h.targets z) (f x)) n.2 ∙ o.2))

      from-there : has_id (all_targets g (owners g)) x ≡ true → has_id (all_targets h (owners h)) (f x) ≡ true
      from-there at =
          let o = origin g.targets (owners g) x at in
          let p = filter-at g.is_owner g.nodes o.0 o.1 in
          has_id-flat_map h.targets (owners h) (f o.0) (f x) (at-filter h.is_owner h.nodes (f o.0) (r.owner o.0 p.1 ∙ p.0) (node-there o.0 p.1)) (slot-there o.0 x p.1 o.2)

  -- the targets of what is no object don't matter, so each graph is cut to its nodes
  whole-renames : Renames base f (whole_graph g) (whole_graph h)
  whole-renames = record { nodes = nodes-same; onto = node-back; based = λ x at. at; targets = r.targets; edges = w.edges; passes = λ x at. refl; once = r.once }

  inner-renames : Renames base f (inner_graph g) (inner_graph h)
  inner-renames = record { nodes = nodes-same; onto = node-back; based = λ x at. at; targets = r.targets; edges = w.edges; passes = λ x at i. not (r.owner x at i || r.ownee x at i); once = r.once }

  under-same : (x : ℕ) → base x ≡ true → is_under_owners h (f x) ≡ is_under_owners g x
  under-same x b = reached-renamed base f (whole_graph g) (whole_graph h) (all_targets g (owners g)) (all_targets h (owners h)) whole-renames owned-same x b

  free-renames : Renames base f (free_graph g) (free_graph h)
  free-renames = record {
    nodes = λ x at. has_id-filter (λ z. not (is_under_owners h z)) h.nodes (f x) ∙ (λ i. not (under-same x at i) && nodes-same x at i) ∙ sym (has_id-filter (λ z. not (is_under_owners g z)) g.nodes x);
    onto = λ z at. node-back z (filter-at (λ z. not (is_under_owners h z)) h.nodes z at).1;
    based = λ x at. (filter-at (λ z. not (is_under_owners g z)) g.nodes x at).1;
    targets = r.targets;
    edges = w.edges;
    passes = λ x at. refl;
    once = r.once;
  }

  pub root_traced-same : (x : ℕ) → base x ≡ true → is_root_traced h (f x) ≡ is_root_traced g x
  root_traced-same x b = reached-renamed base f (free_graph g) (free_graph h) g.roots h.roots free-renames roots-same x b

  pub traced-same : (x : ℕ) → base x ≡ true → is_traced h (f x) ≡ is_traced g x
  traced-same x b = λ i. under-same x b i || root_traced-same x b i

  pub references-same : (x : ℕ) → base x ≡ true → reference_count h (f x) ≡ reference_count g x
  references-same x b =
      let a = ap (total (λ z. bit (eqb z (f x)))) r.roots in
      let c = times-map base f r.once g.roots w.named x b in
      let n = r.nodes (slots_to h (f x)) in
      let m = total-map (slots_to h (f x)) f g.nodes in
      let s =
      total-same_on (λ s. slots_to h (f x) (f s)) (slots_to g x) g.nodes
      (λ s at i. cond (traced-same s at i || r.owner s at i)
      ((ap (times (f x)) (r.targets s at) ∙ times-map base f r.once (g.targets s) (w.edges s) x b) i) 0) in
      omega arith

  pub found-same : (o x : ℕ) → base o ≡ true → base x ≡ true → is_found_from h (f o) (f x) ≡ is_found_from g o x
  found-same o x b c =
      reached-renamed base f (inner_graph g) (inner_graph h) (g.targets o) (h.targets (f o)) inner-renames (λ y d. slots-same o y b d) x c

  -- a sum over the traced objects
  pub traced-total : (k l : ℕ → ℕ) → ((x : ℕ) → base x ≡ true → k (f x) ≡ l x) → total k (traced_cells h) ≡ total l (traced_cells g)
  traced-total k l same =
      let a = total-filter k (is_traced h) h.nodes in
      let n = r.nodes (λ z. cond (is_traced h z) (k z) 0) in
      let m = total-map (λ z. cond (is_traced h z) (k z) 0) f g.nodes in
      let s = total-same_on (λ x. cond (is_traced h (f x)) (k (f x)) 0) (λ x. cond (is_traced g x) (l x) 0) g.nodes (λ x at i. cond (traced-same x at i) (same x at i) 0) in
      let b = total-filter l (is_traced g) g.nodes in
      omega arith

  pub instances-same : (kind : ℕ) → kind_count h kind (traced_cells h) ≡ kind_count g kind (traced_cells g)
  instances-same kind =
      traced-total (λ z. bit (eqb (h.kind z) kind)) (λ x. bit (eqb (g.kind x) kind)) (λ x at i. bit (eqb (r.kind x at i) kind))

  -- a slot of a root-traced object that is no owner leads there
  abbrev leads : StoppedGraph → ℕ → ℕ → Bool
  leads d e s = not (d.is_owner s) && has_id (d.targets s) e

  pub met-back : (x : ℕ) → base x ≡ true → is_met h (f x) ≡ true → is_met g x ≡ true
  met-back x b at =
      ⊎_elim
      (λ named. or_left _ _ (sym (roots-same x b) ∙ named))
      (λ some.
      let s = has_id-from_list_any (leads h (f x)) (root_traced h) some in
      let node = (filter-at (λ z. not (is_under_owners h z)) h.nodes s.0 (reached_nodes-in_nodes (free_graph h) h.roots s.0 s.1)).1 in
      let y = node-back s.0 node in
      let p = and_parts _ _ (ap (leads h (f x)) y.2 ∙ s.2) in
      let rooted = sym (root_traced-same y.0 y.1) ∙ ap (is_root_traced h) y.2 ∙ s.1 in
      or_right _ _ (list_any-from_has_id (leads g x) (root_traced g) y.0 rooted (and_from _ _ (ap not (sym (r.owner y.0 y.1)) ∙ p.0) (slot-back y.0 x y.1 b p.1))))
      (or_cases _ _ at)
