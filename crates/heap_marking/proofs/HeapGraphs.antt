-- The graph of a table by cells is that of the heap by ids, under other numbers.
use Rattle.std.proofs.Common.{◌≡◌, ℕ, zero, suc, ◌+◌, ◌<◌, ◌≤◌, Bool, true, false, ◌||◌, cond, List, [], ◌∷◌, length, map, filter, sym, refl, ap}
use Rattle.std.proofs.Common.{◌∙◌, arith, eqb, eqb-true, Option, None, Some, IsTrue}
use Rattle.std.specs.Prelude.{AllPairs, is_some, unwrap_or, option_and_then}
use Rattle.std.specs.List.{All, filter_map, cons_option, enumerate_from, position, flat_map}
use Rattle.std.specs.Option.{option_map, option_map_or}
use Rattle.std.specs.Str.{bytes_eq}
use Rattle.std.proofs.lemmas.Bool.{false≢true}
use Rattle.std.proofs.lemmas.Bool.Decides.{same_from_decides}
use Rattle.std.proofs.lemmas.List.Elements.{All-head, All-tail}
use Rattle.heap_base.specs.Counting.{bit, is_positive, total, times, IsOnce, AsOften}
use Rattle.heap_base.proofs.Counting.{is_positive-false, total-append, total-filter, total-same, total-map, total-flat_map, total-ones, as_often-from_times}
use Rattle.graph_meaning.specs.Assertions.{Reference, root_ids, is_owner, is_ownee, finds, found_from, under_owners, root_traced, is_met, references, roots_to, slots_to, scanned_ids, reference_count}
use Rattle.graph_meaning.specs.Heap.{Slot, Object, Table, Heap, ids, object_at, is_live, kind_at, edge_of, numbered_edge, edges, targets}
use Rattle.graph_meaning.specs.Laws.{HoldsLive}
use Rattle.graph_meaning.specs.Reach.{has_id}
use Rattle.graph_meaning.specs.Roles.{RoleTable, id_at, AreRolesOf}
use Rattle.graph_meaning.proofs.Edges.{edge-live}
use Rattle.graph_meaning.proofs.Distances.{find_All}
use Rattle.graph_meaning.proofs.HeapLemmas.{has_id-ids}
use Rattle.graph_meaning.proofs.Membership.{has_id-Contains}
use Rattle.object_table.specs.Placed.{PlacedTable, id_in, IsPlaced, IsSound, cell_of}
use Rattle.object_table.proofs.ObjectsByCell.{cell_of-held}
use Rattle.scan_job.specs.Cells.{target_of, graph_of}
use Rattle.scan_job.specs.Graphs.{StoppedGraph, is_found_from}
use Rattle.scan_job.proofs.Fitting.{at-times}
use Rattle.scan_job.proofs.Placing.{node-from_held, held-from_node, is-whole}
use Rattle.heap_marking.specs.TracedCells as Cells
use Rattle.heap_marking.proofs.OwnersAgree.{OwnersAgree}
use Rattle.heap_marking.proofs.Renaming.{IsRenamed, map-at, at-map, times-map}
use Rattle.heap_marking.proofs.RootTraced.{has_id-times}

-- ---- the graph of a heap

-- the heap as a graph whose nodes are ids
abbrev pub heap_graph : Heap → StoppedGraph
heap_graph h = record {
  nodes = ids h.table;
  targets = targets h.table;
  roots = root_ids h.table;
  kind = λ id. unwrap_or (position (bytes_eq (kind_at h.table id)) h.table.kinds) 0;
  is_owner = is_owner h;
  is_ownee = is_ownee h;
  owns = λ owner ownee. false;
}

pub traced-heap : (h : Heap) (x : ℕ) → Cells.is_traced (heap_graph h) x ≡ (has_id (under_owners h) x || has_id (root_traced h) x)
unfolding under_owners root_traced
traced-heap h x = refl

pub finds-heap : (h : Heap) (owner x : ℕ) → is_found_from (heap_graph h) owner x ≡ finds h owner x
unfolding found_from
finds-heap h owner x = refl

pub met-heap : (h : Heap) (x : ℕ) → Cells.is_met (heap_graph h) x ≡ is_met h x
unfolding is_met under_owners root_traced
met-heap h x = refl

-- ---- how many references there are

pub one_or_none : (b : Bool) → cond b 1 0 ≡ bit b
one_or_none true = refl
one_or_none false = refl

-- as many references are made as x stands among the names
picked : {X : Type 0} (name : X → ℕ) (make : X → Reference) (x : ℕ) (xs : List X) → total (λ _. 1) (map make (filter (λ y. eqb (name y) x) xs)) ≡ times x (map name xs)
picked name make x xs =
    total-map (λ _. 1) make (filter (λ y. eqb (name y) x) xs)
    ∙ total-filter (λ _. 1) (λ y. eqb (name y) x) xs
    ∙ total-same (λ y. cond (eqb (name y) x) 1 0) (λ y. bit (eqb (name y) x)) (λ y. one_or_none (eqb (name y) x)) xs
    ∙ sym (total-map (λ z. bit (eqb z x)) name xs)

pub references-heap : (h : Heap) (x : ℕ) → Cells.reference_count (heap_graph h) x ≡ reference_count h x
unfolding references under_owners root_traced
references-heap h x =
    let t = h.table in
    let ones = total-ones (references h x) in
    let both = total-append (λ (_ : Reference). 1) (roots_to t x) (flat_map (slots_to t x) (scanned_ids h)) in
    let named = picked (λ (r : List ℕ × ℕ). r.1) (λ r. Reference.by_root r.0) x t.roots in
    let held = total-flat_map (λ (_ : Reference). 1) (slots_to t x) (scanned_ids h) in
    let each = total-same (λ s. total (λ _. 1) (slots_to t x s)) (λ s. times x (targets t s)) (λ s. picked (λ (e : ℕ × ℕ). e.1) (λ e. Reference.by_slot s e.0) x (edges t s)) (scanned_ids h) in
    let chosen = total-filter (λ s. times x (targets t s)) (λ s. Cells.is_traced (heap_graph h) s || is_owner h s) (ids t) in
    omega arith

-- ---- lists in which nothing stands twice

once-bit : (n : ℕ) → n ≤ 1 → n ≡ bit (is_positive n)
once-bit zero few = refl
once-bit (suc n) few = omega arith

once-times : (xs : List ℕ) → IsOnce xs → (x : ℕ) → times x xs ≡ bit (has_id xs x)
once-times xs once x = once-bit (times x xs) (once x) ∙ ap bit (sym (has_id-times x xs))

rising-ids : (xs : List ℕ) → AllPairs (λ x y. x < y) xs → IsOnce xs
rising-ids [] rises x = omega arith
rising-ids (y ∷ ys) rises x =
    go (rising-ids ys (λ i j d less within. rises (suc i) (suc j) d (omega arith) (omega arith)) x) (eqb y x) refl (has_id ys x) refl
  where
    go : times x ys ≤ 1 → (b : Bool) → eqb y x ≡ b → (c : Bool) → has_id ys x ≡ c → bit b + times x ys ≤ 1
    go rest false other c at = omega arith
    go rest true here false away =
        let z = is_positive-false (times x ys) (sym (has_id-times x ys) ∙ away) in omega arith
    go rest true here true at =
        absurd
        (let c = (has_id-Contains ys x).0 at in
        let l = rises 0 (suc c.0) x (omega arith) (let w = c.1 in omega arith) in
        let e = eqb-true y x here in
        let same = c.2 in
        omega arith)

once-map : (base : ℕ → Bool) (f : ℕ → ℕ) → ((x y : ℕ) → base x ≡ true → base y ≡ true → f x ≡ f y → x ≡ y) → (xs : List ℕ) →
    ((y : ℕ) → has_id xs y ≡ true → base y ≡ true) → IsOnce xs → IsOnce (map f xs)
once-map base f alone xs are once z = go (times z (map f xs)) refl
  where
    go : (n : ℕ) → times z (map f xs) ≡ n → times z (map f xs) ≤ 1
    go zero e = omega arith
    go (suc n) e =
        let s = at-map f xs z (at-times z (map f xs) (omega arith)) in
        let t = times-map base f alone xs are s.0 (are s.0 s.1) in
        let u = ap (λ w. times w (map f xs)) s.2 in
        let o = once s.0 in
        omega arith

-- ---- the table

some-unwrapped : (o : Option ℕ) → is_some o ≡ true → o ≡ Some (unwrap_or o 0)
some-unwrapped None e = absurd (false≢true e)
some-unwrapped (Some x) e = refl

-- where a slot is an edge, its object is live
pub from-live : (t : Table) (x y : ℕ) → has_id (targets t x) y ≡ true → is_live t x ≡ true
from-live t x y at = go (object_at t.objects x) at
  where
    go : (o : Option Object) → has_id (map (λ e. e.1) (option_map_or (λ u. filter_map numbered_edge (enumerate_from 0 u.slots)) o [])) y ≡ true → is_some o ≡ true
    go None at = absurd (false≢true at)
    go (Some u) at = refl

module _ (p : PlacedTable) (r : RoleTable) (placed : IsPlaced p) (sound : IsSound p.table) where
  abbrev pub id_of : ℕ → ℕ
  id_of = id_at p.cells

  abbrev g : StoppedGraph
  g = graph_of p r

  pub id_of-held : (cell id : ℕ) → id_in p cell ≡ Some id → id_of cell ≡ id
  id_of-held cell id e = ap (λ o. unwrap_or o 0) e

  pub node-held : (cell : ℕ) → has_id g.nodes cell ≡ true → id_in p cell ≡ Some (id_of cell)
  node-held cell at = some-unwrapped (id_in p cell) (held-from_node p r cell at)

  pub held-node : (cell id : ℕ) → id_in p cell ≡ Some id → has_id g.nodes cell ≡ true
  held-node cell id e = node-from_held p r cell (ap is_some e)

  pub alone : (x y : ℕ) → has_id g.nodes x ≡ true → has_id g.nodes y ≡ true → id_of x ≡ id_of y → x ≡ y
  alone x y at bt e = placed.once x y (id_of x) (node-held x at) (node-held y bt ∙ ap Some (sym e))

  nodes-named : (x : ℕ) → has_id (ids p.table) x ≡ has_id (map id_of g.nodes) x
  nodes-named x = same_from_decides _ _ (there, back) (λ e. e, λ e. e)
    where
      there : has_id (ids p.table) x ≡ true → has_id (map id_of g.nodes) x ≡ true
      there at =
          let c = placed.somewhere x (sym (has_id-ids p.table x) ∙ at) in
          ap (has_id (map id_of g.nodes)) (sym (id_of-held c.0 x c.1)) ∙ map-at id_of g.nodes c.0 (held-node c.0 x c.1)

      back : has_id (map id_of g.nodes) x ≡ true → has_id (ids p.table) x ≡ true
      back at =
          let s = at-map id_of g.nodes x at in
          has_id-ids p.table x ∙ placed.live s.0 x (node-held s.0 s.1 ∙ ap Some s.2)

  nodes-often : IsOnce g.nodes → AsOften (ids p.table) (map id_of g.nodes)
  nodes-often once =
      as_often-from_times (ids p.table) (map id_of g.nodes)
      (λ x. once-times (ids p.table) (rising-ids (ids p.table) sound.ids.rising) x ∙ ap bit (nodes-named x)
      ∙ sym (once-times (map id_of g.nodes) (once-map (has_id g.nodes) id_of alone g.nodes (λ y at. at) once) x))

  -- the cell of a live object, by its id
  cell-live : (id : ℕ) → is_live p.table id ≡ true → (cell : ℕ) × (cell_of p id ≡ Some cell) × (id_of cell ≡ id)
  cell-live id live =
      let c = placed.somewhere id live in (c.0, cell_of-held p placed c.0 id c.1, id_of-held c.0 id c.1)

  -- the ids of what edges lead to, by the cells
  slots-named : (n : ℕ) (slots : List Slot) → All (HoldsLive p.table) slots → map (λ e. e.1) (filter_map numbered_edge (enumerate_from n slots)) ≡ map id_of (filter_map (target_of p) slots)
  slots-named n [] live = refl
  slots-named n (s ∷ slots) live =
      go (edge_of s) refl (slots-named (n + 1) slots (All-tail (HoldsLive p.table) s slots live))
    where
      go : (o : Option ℕ) → edge_of s ≡ o →
          map (λ e. e.1) (filter_map numbered_edge (enumerate_from (n + 1) slots)) ≡ map id_of (filter_map (target_of p) slots) →
          map (λ (e : ℕ × ℕ). e.1) (cons_option (option_map (λ y. (n, y)) o) (filter_map numbered_edge (enumerate_from (n + 1) slots)))
          ≡ map id_of (cons_option (option_and_then (cell_of p) o) (filter_map (target_of p) slots))
      go None e rest = rest
      go (Some y) e rest =
          let c = cell-live y (edge-live p.table s y (All-head (HoldsLive p.table) s slots live) e) in
          rest-of c.0 c.2 rest ∙ ap (λ (o : Option ℕ). map id_of (cons_option o (filter_map (target_of p) slots))) (sym c.1)
        where
          rest-of : (cell : ℕ) → id_of cell ≡ y →
              map (λ e. e.1) (filter_map numbered_edge (enumerate_from (n + 1) slots)) ≡ map id_of (filter_map (target_of p) slots) →
              y ∷ map (λ e. e.1) (filter_map numbered_edge (enumerate_from (n + 1) slots)) ≡ id_of cell ∷ map id_of (filter_map (target_of p) slots)
          rest-of cell is_so rest = λ i. sym is_so i ∷ rest i

  targets-named : (cell : ℕ) → has_id g.nodes cell ≡ true → targets p.table (id_of cell) ≡ map id_of (g.targets cell)
  targets-named cell at =
      go (object_at p.table.objects (id_of cell)) refl
      ∙ ap (λ (o : Option ℕ). map id_of (filter_map (target_of p) (option_map_or (λ (u : Object). u.slots) (option_and_then (object_at p.table.objects) o) []))) (sym (node-held cell at))
    where
      go : (o : Option Object) → object_at p.table.objects (id_of cell) ≡ o →
          map (λ (e : ℕ × ℕ). e.1) (option_map_or (λ (u : Object). filter_map numbered_edge (enumerate_from 0 u.slots)) o [])
          ≡ map id_of (filter_map (target_of p) (option_map_or (λ (u : Object). u.slots) o []))
      go None e = refl
      go (Some u) e =
          slots-named 0 u.slots (find_All (λ w. eqb w.id (id_of cell)) (λ w. All (HoldsLive p.table) w.slots) p.table.objects u sound.slots e)

  roots-named : (roots : List (List ℕ × ℕ)) → All (λ id. IsTrue (is_live p.table id)) (map (λ n. n.1) roots) →
      map (λ (n : List ℕ × ℕ). n.1) roots ≡ map id_of (filter_map (λ (n : List ℕ × ℕ). cell_of p n.1) roots)
  roots-named [] live = refl
  roots-named (n ∷ roots) live =
      let P = λ (id : ℕ). IsTrue (is_live p.table id) in
      let rest = roots-named roots (All-tail P n.1 (map (λ n. n.1) roots) live) in
      let c = cell-live n.1 (All-head P n.1 (map (λ n. n.1) roots) live) in
      (λ i. sym c.2 i ∷ rest i)
      ∙ ap (λ (o : Option ℕ). map id_of (cons_option o (filter_map (λ (n : List ℕ × ℕ). cell_of p n.1) roots))) (sym c.1)

  kind-named : (cell : ℕ) → has_id g.nodes cell ≡ true → unwrap_or (position (bytes_eq (kind_at p.table (id_of cell))) p.table.kinds) 0 ≡ g.kind cell
  kind-named cell at =
      go (object_at p.table.objects (id_of cell)) (placed.live cell (id_of cell) (node-held cell at))
      ∙ ap (λ (o : Option ℕ). unwrap_or (option_and_then (λ (u : Object). position (bytes_eq u.kind) p.table.kinds) (option_and_then (object_at p.table.objects) o)) 0) (sym (node-held cell at))
    where
      go : (o : Option Object) → is_some o ≡ true →
          unwrap_or (position (bytes_eq (option_map_or (λ (u : Object). u.kind) o [])) p.table.kinds) 0 ≡ unwrap_or (option_and_then (λ (u : Object). position (bytes_eq u.kind) p.table.kinds) o) 0
      go None live = absurd (false≢true live)
      go (Some u) live = refl

  -- The graph of the heap is that of the table with each cell named by its id.
  pub heap-named : AreRolesOf p.cells (length p.table.kinds) r → (h : Heap) → OwnersAgree p r h → IsRenamed id_of g (heap_graph h)
  heap-named roles h stand = record {
    nodes = λ k. ap (λ (t : Table). total k (ids t)) stand.table ∙ nodes-often (is-whole p r roles).once k;
    targets = λ x at. ap (λ (t : Table). targets t (id_of x)) stand.table ∙ targets-named x at;
    roots = ap root_ids stand.table ∙ roots-named p.table.roots sound.roots;
    kind = λ x at. ap (λ (t : Table). unwrap_or (position (bytes_eq (kind_at t (id_of x))) t.kinds) 0) stand.table ∙ kind-named x at;
    owner = λ x at. stand.owners x (id_of x) (node-held x at);
    ownee = λ x at. stand.ownees x (id_of x) (node-held x at);
    once = alone;
  }
