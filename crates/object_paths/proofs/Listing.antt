-- Lists of references, and what a search has found of them.
use Rattle.std.proofs.Common.{◌≡◌, ℕ, ◌+◌, ◌<◌, ◌≤◌, ◌==◌, Bool, true, false, ◌||◌, cond, List, [], ◌∷◌, ◌++◌, length, map, filter, take, take_all, get_or, None, Some}
use Rattle.std.proofs.Common.{sym, refl, ap, subst, ◌∙◌, append-nil, append_assoc, arith}
use Rattle.std.specs.Prelude.{IsSome}
use Rattle.std.specs.List.{flat_map, slice_get}
use Rattle.std.specs.Option.{IfSome}
use Rattle.std.proofs.lemmas.List.{map-append, flat_map_more, length-map, take_more}
use Rattle.std.proofs.lemmas.List.Elements.{filter-append, filter_more}
use Rattle.std.proofs.lemmas.Option.{slice_get-get_or}
use Rattle.graph_meaning.specs.Assertions.{Reference, by_root, by_slot, is_owner, is_traced, references, roots_to, slots_to}
use Rattle.graph_meaning.specs.Heap.{Heap, Object, Slot, Table, edge_of, edges_of, empty_slot, ids}
use Rattle.graph_meaning.specs.Roles.{RoleTable, id_at}
use Rattle.graph_meaning.proofs.EdgesOfSlots.{edges-edge, edges-none, edges-all}
use Rattle.object_table.specs.Placed.{PlacedTable, IsPlaced, id_in, slots_in}
use Rattle.object_table.proofs.ObjectsByCell.{edges-cell, held-id, id-held, held-within}
use Rattle.assert_registry.specs.Laws.{StandFor}
use Rattle.assert_registry.proofs.ByHeap.{roles_say_of_heap}
use Rattle.object_paths.specs.References.{KeptAreTraced, StartList}
use Rattle.object_paths.specs.Prefixes.{Finding, FindsFirst, IsOneMore, ScannedByCell, scanned_slots}

-- the references by these roots to the object with an id
abbrev pub by_roots : List (List ℕ × ℕ) → ℕ → List Reference
by_roots roots id = map (λ r. by_root r.0) (filter (λ r. r.1 == id) roots)

-- the references by these edges of the object with the id s to that with an id
abbrev pub by_edges : ℕ → List (ℕ × ℕ) → ℕ → List Reference
by_edges s es id = map (λ e. by_slot s e.0) (filter (λ e. e.1 == id) es)

map-cond : {X Y : Type 0} (f : X → Y) (b : Bool) (x : X) → map f (cond b (x ∷ []) []) ≡ cond b (f x ∷ []) []
map-cond f true x = refl
map-cond f false x = refl

-- one root or edge more
pub one_more : {X : Type 0} (f : X → Reference) (to : X → ℕ) (xs : List X) (x : X) →
    IsOneMore (to x) (f x) (λ id. map f (filter (λ y. to y == id) xs)) (λ id. map f (filter (λ y. to y == id) (xs ++ x ∷ [])))
one_more f to xs x id =
    ap (map f) (filter-append (λ y. to y == id) xs (x ∷ []))
    ∙ map-append f (filter (λ y. to y == id) xs) (cond (to x == id) (x ∷ []) [])
    ∙ ap (λ ys. map f (filter (λ y. to y == id) xs) ++ ys) (map-cond f (to x == id) x)

-- the same after other references
pub one_more-after : (id : ℕ) (r : Reference) (others before after : ℕ → List Reference) → IsOneMore id r before after → IsOneMore id r (λ x. others x ++ before x) (λ x. others x ++ after x)
one_more-after id r others before after more x =
    ap (λ rs. others x ++ rs) (more x) ∙ sym (append_assoc (others x) (before x) (cond (id == x) (r ∷ []) []))

-- ---- the roots

module _ (p : PlacedTable) (n cell : ℕ) (within : n < length p.table.roots) (names : IfSome (slice_get p.table.roots n) (λ r. id_in p cell ≡ Some r.1)) where
  -- the root with this number
  abbrev pub nth_root : List ℕ × ℕ
  nth_root = get_or p.table.roots n ([], 0)

  -- it is there, and the cell holds its object
  pub nth_root-is : (slice_get p.table.roots n ≡ Some nth_root) × (id_in p cell ≡ Some nth_root.1)
  nth_root-is =
      let there = slice_get-get_or p.table.roots n ([], 0) within in
      (there, subst (λ o. IfSome o (λ r. id_in p cell ≡ Some r.1)) there names)

  pub nth_root-more : IsOneMore nth_root.1 (by_root nth_root.0) (by_roots (take n p.table.roots)) (by_roots (take (n + 1) p.table.roots))
  nth_root-more =
      subst (λ rs. IsOneMore nth_root.1 (by_root nth_root.0) (by_roots (take n p.table.roots)) (by_roots rs)) (sym (take_more p.table.roots n ([], 0) within))
      (one_more (λ r. by_root r.0) (λ r. r.1) (take n p.table.roots) nth_root)

-- ---- the slots of an object

-- after other references, those by so many slots of the object with an id
abbrev pub with_slots : (ℕ → List Reference) → ℕ → List Slot → ℕ → List Reference
with_slots before holder slots id = before id ++ by_edges holder (edges_of slots) id

module _ (before : ℕ → List Reference) (holder : ℕ) (slots : List Slot) (n : ℕ) (within : n < length slots) where
  -- one slot more, which is an edge
  pub slot-more : (id : ℕ) → edge_of (get_or slots n empty_slot) ≡ Some id → IsOneMore id (by_slot holder n) (with_slots before holder (take n slots)) (with_slots before holder (take (n + 1) slots))
  slot-more id edge =
      let es = edges_of (take n slots) in
      one_more-after id (by_slot holder n) before (by_edges holder es) (by_edges holder (edges_of (take (n + 1) slots)))
      (subst (λ xs. IsOneMore id (by_slot holder n) (by_edges holder es) (by_edges holder xs)) (sym (edges-edge slots n id within edge))
      (one_more (λ (e : ℕ × ℕ). by_slot holder e.0) (λ e. e.1) es (n, id)))

  -- and one that is none
  pub slot-none : edge_of (get_or slots n empty_slot) ≡ None → (id : ℕ) → with_slots before holder (take n slots) id ≡ with_slots before holder (take (n + 1) slots) id
  slot-none none id = ap (λ xs. before id ++ by_edges holder xs id) (sym (edges-none slots n within none))

-- all slots of an object
pub slots-all : (before : ℕ → List Reference) (p : PlacedTable) (cell n : ℕ) → IsSome (id_in p cell) → length (slots_in p cell) ≤ n → (id : ℕ) →
    with_slots before (id_at p.cells cell) (take n (slots_in p cell)) id ≡ before id ++ slots_to p.table id (id_at p.cells cell)
slots-all before p cell n held most id =
    ap (λ xs. before id ++ by_edges (id_at p.cells cell) xs id)
    (edges-all (slots_in p cell) n most ∙ sym (edges-cell p cell (id_at p.cells cell) (held-id p cell held)))

-- ---- the objects, one after another

-- one object more, whose slots count
pub scanned-next : (t : Table) (before : ℕ → List Reference) (is_scanned : ℕ → Bool) (xs : List ℕ) (i : ℕ) → i < length xs →
    is_scanned (get_or xs i 0) ≡ true → (id : ℕ) →
    (before id ++ flat_map (slots_to t id) (filter is_scanned (take i xs))) ++ slots_to t id (get_or xs i 0) ≡ before id ++ flat_map (slots_to t id) (filter is_scanned (take (i + 1) xs))
scanned-next t before is_scanned xs i within scanned id =
    let x = get_or xs i 0 in
    let more = filter_more is_scanned xs i 0 within ∙ ap (λ b. filter is_scanned (take i xs) ++ cond b (x ∷ []) []) scanned in
    flat_map_more (slots_to t id) (before id) (filter is_scanned (take i xs)) x ∙ ap (λ ys. before id ++ flat_map (slots_to t id) ys) (sym more)

-- and one whose slots don't
pub scanned-passed : (t : Table) (before : ℕ → List Reference) (is_scanned : ℕ → Bool) (xs : List ℕ) (i : ℕ) → i < length xs →
    is_scanned (get_or xs i 0) ≡ false → (id : ℕ) →
    before id ++ flat_map (slots_to t id) (filter is_scanned (take i xs)) ≡ before id ++ flat_map (slots_to t id) (filter is_scanned (take (i + 1) xs))
scanned-passed t before is_scanned xs i within passed id =
    let x = get_or xs i 0 in
    let more = filter_more is_scanned xs i 0 within ∙ ap (λ b. filter is_scanned (take i xs) ++ cond b (x ∷ []) []) passed ∙ append-nil (filter is_scanned (take i xs)) in
    ap (λ ys. before id ++ flat_map (slots_to t id) ys) (sym more)

-- after other references, those by the slots of the scanned ones among so many objects
abbrev pub with_scanned : Table → (ℕ → List Reference) → (ℕ → Bool) → ℕ → ℕ → List Reference
with_scanned t before is_scanned n id = before id ++ flat_map (slots_to t id) (filter is_scanned (take n (ids t)))

module _ (p : PlacedTable) (n cell : ℕ) (within : n < length p.table.objects) (is : id_in p cell ≡ slice_get (ids p.table) n) where
  -- the id of the object with this number
  abbrev pub nth_object : ℕ
  nth_object = get_or (ids p.table) n 0

  pub nth_object-among : n < length (ids p.table)
  nth_object-among = subst (λ m. n < m) (sym (length-map p.table.objects (λ (o : Object). o.id))) within

  pub nth_object-held : id_in p cell ≡ Some nth_object
  nth_object-held = is ∙ slice_get-get_or (ids p.table) n 0 nth_object-among

  pub nth_object-below : cell < length p.cells
  nth_object-below = held-within p cell nth_object nth_object-held

  module _ (before : ℕ → List Reference) (is_scanned : ℕ → Bool) where
    -- where its slots count
    pub object-scanned : is_scanned nth_object ≡ true → (id : ℕ) →
        with_scanned p.table before is_scanned n id ++ slots_to p.table id (id_at p.cells cell) ≡ with_scanned p.table before is_scanned (n + 1) id
    object-scanned scanned id =
        ap (λ s. with_scanned p.table before is_scanned n id ++ slots_to p.table id s) (id-held p cell nth_object nth_object-held)
        ∙ scanned-next p.table before is_scanned (ids p.table) n nth_object-among scanned id

    -- and where they don't
    pub object-passed : is_scanned nth_object ≡ false → (id : ℕ) → with_scanned p.table before is_scanned n id ≡ with_scanned p.table before is_scanned (n + 1) id
    object-passed passed id = scanned-passed p.table before is_scanned (ids p.table) n nth_object-among passed id

-- all objects
pub scanned-all : (t : Table) (before : ℕ → List Reference) (is_scanned : ℕ → Bool) (n : ℕ) → length t.objects ≤ n → (id : ℕ) →
    with_scanned t before is_scanned n id ≡ before id ++ scanned_slots t is_scanned id
scanned-all t before is_scanned n most id =
    ap (λ xs. before id ++ flat_map (slots_to t id) (filter is_scanned xs)) (take_all n (ids t) (omega (arith, most, length-map t.objects (λ (o : Object). o.id))))

-- lists that are the same for each object
pub finds-same : (p : PlacedTable) (asked : List ℕ) (before after : ℕ → List Reference) (f : Finding) → ((id : ℕ) → before id ≡ after id) → FindsFirst p asked before f → FindsFirst p asked after f
finds-same p asked before after f same finds = record {
  are = finds.are;
  first = λ n cell r at is.
      subst (λ rs. StartList p (id_at p.cells cell) rs r) (same (id_at p.cells cell)) (finds.first n cell r at is);
}

-- ---- in a heap

-- the references are those by roots and those by slots of what is traced and of owners
pub references-are : (h : Heap) (t : Table) (id : ℕ) → h.table ≡ t → roots_to t id ++ scanned_slots t (λ x. is_traced h x || is_owner h x) id ≡ references h id
unfolding references
references-are h t id same =
    ap (λ (u : Table). roots_to u id ++ flat_map (slots_to u id) (filter (λ x. is_traced h x || is_owner h x) (ids u))) (sym same)

-- what is scanned by cell are the traced objects and the owners
pub scanned-by_cell : (p : PlacedTable) (r : RoleTable) (h : Heap) (kept : List Bool) → IsPlaced p → StandFor p r h → KeptAreTraced p h kept →
    ScannedByCell p r kept (λ x. is_traced h x || is_owner h x)
scanned-by_cell p r h kept placed stand keeps x id held =
    let says = roles_say_of_heap h p r placed stand in (λ i. (sym (keeps x id held) i) || (sym (says.owners x id held) i))
