-- What is traced by cells is what is traced by ids.
use Rattle.std.proofs.Common.{◌≡◌, ℕ, ◌<◌, ◌≤◌, Bool, true, false, cond, ⊎_elim, List, [], length, get_or, filter, sym, refl, ap, ◌∙◌, subst, arith, eqb, eqb-true, eq-eqb, Option, None, Some, IsTrue}
use Rattle.std.specs.Prelude.{is_some, unwrap_or, slice_get}
use Rattle.std.specs.List.{IsDistinct, position, position_or_len, range_with_len}
use Rattle.std.specs.Option.{option_map_or}
use Rattle.std.specs.Str.{bytes_eq}
use Rattle.std.proofs.lemmas.Bool.{cases_Bool, cases_lt, cases_eq, false≢true, lt-ltb}
use Rattle.std.proofs.lemmas.Bool.Decides.{same_from_decides}
use Rattle.std.proofs.lemmas.List.Folds.{find_at}
use Rattle.std.proofs.lemmas.List.Quantifiers.{position-Some}
use Rattle.std.proofs.lemmas.Map.Keys.{apart_from_distinct}
use Rattle.std.proofs.lemmas.Option.{slice_get-get_or, slice_get_within}
use Rattle.std.proofs.lemmas.Slice.Eq.{bytes_eq-Decides}
use Rattle.heap_base.specs.Counting.{bit, is_positive, total}
use Rattle.heap_base.proofs.Counting.{is_positive-false, total-filter, total-same, total-ones}
use Rattle.graph_meaning.specs.Assertions.{finds, is_traced, traced_ids, is_met, under_owners, root_traced, reference_count}
use Rattle.graph_meaning.specs.Collecting.{instances}
use Rattle.graph_meaning.specs.Heap.{Object, Table, Heap, ids, object_at, is_live, is_seen, kind_at, targets}
use Rattle.graph_meaning.specs.Reach.{has_id}
use Rattle.graph_meaning.specs.Roles.{RoleTable, AreRolesOf}
use Rattle.graph_meaning.proofs.Distances.{find_All}
use Rattle.graph_meaning.proofs.HeapLemmas.{has_id-ids}
use Rattle.graph_meaning.proofs.Membership.{is_some-find}
use Rattle.header_rule.specs.declared.mark.Mark.TheVariants.{Found}
use Rattle.header_rule.specs.Passes.{all_adds, all_marks}
use Rattle.object_table.specs.Placed.{PlacedTable, id_in, IsPlaced, IsSound}
use Rattle.scan_job.specs.Cells.{graph_of}
use Rattle.scan_job.specs.Graphs.{StoppedGraph, IsWhole}
use Rattle.scan_job.specs.Scans.{kind_count}
use Rattle.scan_job.specs.States.{ScanState, passes_of}
use Rattle.scan_job.proofs.Placing.{is-whole, held-from_node}
use Rattle.scan_job.proofs.Reaching.{filter-at}
use Rattle.heap_marking.specs.TracedCells as Cells
use Rattle.heap_marking.specs.TracedCells.{traced_cells, AreTraced}
use Rattle.heap_marking.specs.TracedHeaps.{owns, HeapIsTraced, CellsTraceHeaps}
use Rattle.heap_marking.proofs.HeapGraphs.{heap_graph, one_or_none, traced-heap, finds-heap, met-heap, references-heap, from-live, id_of, id_of-held, node-held, held-node, heap-named}
use Rattle.heap_marking.proofs.OwnersAgree.{OwnersAgree, owners_agree}
use Rattle.heap_marking.proofs.Renaming as Renaming
use Rattle.heap_marking.proofs.Renaming.{total-same_on}
use Rattle.heap_marking.proofs.RootTraced.{traced-node}

-- ---- the number of a type

-- a type that was seen has a number
seen-position : (kind : List ℕ) (kinds : List (List ℕ)) → is_seen kinds kind ≡ true → (n : ℕ) × (position (bytes_eq kind) kinds ≡ Some n)
seen-position kind kinds seen =
    go (slice_get kinds place) refl (ap is_some (sym (find_at (bytes_eq kind) kinds)) ∙ is_some-find (bytes_eq kind) kinds ∙ seen)
  where
    place : ℕ
    place = position_or_len (bytes_eq kind) kinds

    go : (o : Option (List ℕ)) → slice_get kinds (position_or_len (bytes_eq kind) kinds) ≡ o → is_some o ≡ true → (n : ℕ) × (position (bytes_eq kind) kinds ≡ Some n)
    go None e some = absurd (false≢true some)
    go (Some x) e some = (
      position_or_len (bytes_eq kind) kinds,
      ap (λ b. cond b (Some (position_or_len (bytes_eq kind) kinds)) None)
          (lt-ltb (position_or_len (bytes_eq kind) kinds) (length kinds) (slice_get_within kinds (position_or_len (bytes_eq kind) kinds) x e)),
    )

-- The number of a type is that of the name.
kind-is : (kinds : List (List ℕ)) → IsDistinct bytes_eq kinds → (kind : ℕ) (name : List ℕ) → slice_get kinds kind ≡ Some name → (k : List ℕ) →
    is_seen kinds k ≡ true → eqb (unwrap_or (position (bytes_eq k) kinds) 0) kind ≡ bytes_eq k name
kind-is kinds distinct kind name e k seen =
    let n = seen-position k kinds seen in
    let at = position-Some (bytes_eq k) kinds n.0 [] n.1 in
    let here : k ≡ get_or kinds n.0 [] = (bytes_eq-Decides k (get_or kinds n.0 [])).0 at.1 in
    let within = slice_get_within kinds kind name e in
    let named : name ≡ get_or kinds kind [] = same-some (sym e ∙ slice_get-get_or kinds kind [] within) in
    ap (λ o. eqb (unwrap_or o 0) kind) n.1
    ∙ same_from_decides (eqb n.0 kind) (bytes_eq k name) (
      λ same. (bytes_eq-Decides k name).1 (here ∙ ap (λ i. get_or kinds i []) (eqb-true n.0 kind same) ∙ sym named),
      λ same.
          let equal : get_or kinds n.0 [] ≡ get_or kinds kind [] = sym here ∙ (bytes_eq-Decides k name).0 same ∙ named in
          ⊎_elim
          (λ (one : n.0 ≡ kind). eq-eqb n.0 kind one)
          (λ other.
          ⊎_elim
          (λ (less : n.0 < kind). absurd (apart n.0 kind less within equal))
          (λ (more : kind ≤ n.0). absurd (apart kind n.0 (below n.0 other more) at.0 (sym equal)))
          (cases_lt n.0 kind))
          (cases_eq n.0 kind),
    )
    (λ e. e, λ e. e)
  where
    same-some : {x y : List ℕ} → Some x ≡ Some y → x ≡ y
    same-some e = cc

    below : (n : ℕ) → (n ≡ kind → ⊥) → kind ≤ n → kind < n
    below n other more = omega arith

    apart : (i j : ℕ) → i < j → j < length kinds → get_or kinds i [] ≡ get_or kinds j [] → ⊥
    apart i j less within equal =
        false≢true (sym (apart_from_distinct bytes_eq kinds i j [] distinct less within) ∙ (bytes_eq-Decides (get_or kinds i []) (get_or kinds j [])).1 equal)

instances-heap : (h : Heap) → IsSound h.table → (kind : ℕ) (name : List ℕ) → slice_get h.table.kinds kind ≡ Some name →
    kind_count (heap_graph h) kind (traced_cells (heap_graph h)) ≡ length (instances h name)
unfolding instances traced_ids under_owners root_traced
instances-heap h sound kind name e =
    let ts = filter (is_traced h) (ids h.table) in
    let is_of = λ (id : ℕ). bytes_eq (kind_at h.table id) name in
    let ones = total-ones (filter is_of ts) in
    let chosen = total-filter (λ _. 1) is_of ts in
    let same =
    total-same_on (λ x. bit (eqb ((heap_graph h).kind x) kind)) (λ x. cond (is_of x) 1 0) ts
    (λ x at. each x (object_at h.table.objects x) refl (sym (has_id-ids h.table x) ∙ (filter-at (is_traced h) (ids h.table) x at).1)) in
    omega arith
  where
    each : (x : ℕ) (o : Option Object) → object_at h.table.objects x ≡ o → is_some (object_at h.table.objects x) ≡ true →
        bit (eqb (unwrap_or (position (bytes_eq (kind_at h.table x)) h.table.kinds) 0) kind) ≡ cond (bytes_eq (kind_at h.table x) name) 1 0
    each x None at live = absurd (false≢true (sym (ap is_some at) ∙ live))
    each x (Some u) at live =
        let seen = find_All (λ w. eqb w.id x) (λ w. IsTrue (is_seen h.table.kinds w.kind)) h.table.objects u sound.seen at in
        subst (λ (o : Option Object). bit (eqb (unwrap_or (position (bytes_eq (option_map_or (λ (w : Object). w.kind) o [])) h.table.kinds) 0) kind)
        ≡ cond (bytes_eq (option_map_or (λ (w : Object). w.kind) o []) name) 1 0) (sym at)
        (ap bit (kind-is h.table.kinds sound.kinds kind name e u.kind seen) ∙ sym (one_or_none (bytes_eq u.kind name)))

-- ---- all that is said of the heap

module _ (p : PlacedTable) (r : RoleTable) (h : Heap) (js : List ScanState) (placed : IsPlaced p) (sound : IsSound p.table)
    (roles : AreRolesOf p.cells (length p.table.kinds) r) (stand : OwnersAgree p r h) (t : AreTraced (graph_of p r) js) where
  abbrev g : StoppedGraph
  g = graph_of p r

  abbrev k : StoppedGraph
  k = heap_graph h

  abbrev f : ℕ → ℕ
  f = id_of p r placed sound

  whole : IsWhole g
  whole = is-whole p r roles

  named : Renaming.IsRenamed f g k
  named = heap-named p r placed sound roles h stand

  node : (cell id : ℕ) → id_in p cell ≡ Some id → has_id g.nodes cell ≡ true
  node = held-node p r placed sound

  is-id : (cell id : ℕ) → id_in p cell ≡ Some id → f cell ≡ id
  is-id = id_of-held p r placed sound

  traced-is : (cell id : ℕ) → id_in p cell ≡ Some id → Cells.is_traced g cell ≡ is_traced h id
  traced-is cell id e =
      sym (Renaming.traced-same f g k whole named cell (node cell id e)) ∙ traced-heap h (f cell) ∙ ap (is_traced h) (is-id cell id e)

  counted : (cell id : ℕ) → id_in p cell ≡ Some id → all_adds cell (passes_of js) ≡ reference_count h id
  counted cell id e =
      t.count cell ∙ sym (Renaming.references-same f g k whole named cell (node cell id e)) ∙ references-heap h (f cell) ∙ ap (reference_count h) (is-id cell id e)

  unmet : (cell : ℕ) → id_in p cell ≡ None → all_adds cell (passes_of js) ≡ 0
  unmet cell e =
      ⊎_elim
      (λ (at : Cells.is_traced g cell ≡ true). absurd (false≢true (sym (ap is_some e) ∙ held-from_node p r cell (traced-node g cell at))))
      (λ (away : Cells.is_traced g cell ≡ false). is_positive-false (all_adds cell (passes_of js)) (t.kept cell ∙ away))
      (cases_Bool (Cells.is_traced g cell))

  many : total (λ cell. bit (is_positive (all_adds cell (passes_of js)))) (range_with_len 0 (length p.cells)) ≡ length (traced_ids h)
  unfolding traced_ids under_owners root_traced
  many =
      let cells = range_with_len 0 (length p.cells) in
      let a =
      total-same (λ cell. bit (is_positive (all_adds cell (passes_of js))))
      (λ cell. cond (is_some (id_in p cell)) (cond (Cells.is_traced g cell) 1 0) 0)
      (λ cell. ap bit (t.kept cell) ∙ each cell (Cells.is_traced g cell) refl) cells in
      let b = total-filter (λ cell. cond (Cells.is_traced g cell) 1 0) (λ cell. is_some (id_in p cell)) cells in
      let c = total-filter (λ _. 1) (Cells.is_traced g) g.nodes in
      let d = Renaming.traced-total f g k whole named (λ _. 1) (λ _. 1) (λ x at. refl) in
      let e = total-ones (traced_ids h) in
      omega arith
    where
      each : (cell : ℕ) (b : Bool) → Cells.is_traced g cell ≡ b → bit b ≡ cond (is_some (id_in p cell)) (cond b 1 0) 0
      each cell true at = ap (λ o. cond o 1 0) (sym (held-from_node p r cell (traced-node g cell at)))
      each cell false at = sym (none (is_some (id_in p cell)))
        where
          none : (b : Bool) → cond {A = ℕ} b 0 0 ≡ 0
          none true = refl
          none false = refl

  found : (cell id : ℕ) → id_in p cell ≡ Some id → is_positive (all_marks Found cell (passes_of js)) ≡ true → (owner : ℕ) × IsTrue (owns h owner id) × IsTrue (finds h owner id)
  found cell id e at =
      let o = t.found cell at in
      let is_node = whole.owners o.0 (whole.owned o.0 cell o.1).0 in
      let here = node-held p r placed sound o.0 is_node in (
        f o.0,
        stand.pairs cell o.0 id (f o.0) e here ∙ o.1,
        ap (finds h (f o.0)) (sym (is-id cell id e)) ∙ sym (finds-heap h (f o.0) (f cell)) ∙ Renaming.found-same f g k whole named o.0 cell is_node (node cell id e) ∙ o.2,
      )

  marked : (cell id owner : ℕ) → id_in p cell ≡ Some id → owns h owner id ≡ true → has_id (targets h.table owner) id ≡ true → is_positive (all_marks Found cell (passes_of js)) ≡ true
  marked cell id owner e owned leads =
      let live : is_live p.table owner ≡ true = ap (λ (u : Table). is_live u owner) (sym stand.table) ∙ from-live h.table owner id leads in
      let o = placed.somewhere owner live in
      let slot = ap (λ z. has_id (targets h.table z) (f cell)) (is-id o.0 owner o.1) ∙ ap (has_id (targets h.table owner)) (is-id cell id e) ∙ leads in
      t.marked o.0 cell (sym (stand.pairs cell o.0 id owner e o.1) ∙ owned) (Renaming.slot-back f g k whole named o.0 cell (node o.0 owner o.1) (node cell id e) slot)

  pub heap-traced : HeapIsTraced p h js
  heap-traced = record {
    count = counted;
    kept = λ cell id e. t.kept cell ∙ traced-is cell id e;
    empty = unmet;
    instances = λ kind name e.
        t.instances kind
        ∙ sym (Renaming.instances-same f g k whole named kind)
        ∙ instances-heap h (subst IsSound (sym stand.table) sound) kind name (ap (λ (u : Table). slice_get u.kinds kind) stand.table ∙ e);
    traced = many;
    found = found;
    marked = marked;
    met = λ cell id e ownee is_so.
        t.met cell (sym (stand.ownees cell id e) ∙ ownee)
        (Renaming.met-back f g k whole named cell (node cell id e) (met-heap h (f cell) ∙ ap (is_met h) (is-id cell id e) ∙ is_so));
  }

pub cells_trace_heaps : CellsTraceHeaps
cells_trace_heaps p r h js placed sound roles stand t =
    heap-traced p r h js placed sound roles (owners_agree p r h placed stand) t
