-- The cells of all objects, by the ids of the objects.
use Rattle.std.proofs.Common.{◌≡◌, ℕ, ◌+◌, ◌<◌, Bool, true, false, cond, List, [], ◌∷◌, ◌++◌, length, take, get_or, map, IsTrue, Some, ap, sym, refl, ◌∙◌, arith}
use Rattle.std.specs.Prelude.{◌==◌, IsSome, unwrap_or}
use Rattle.std.specs.List.{All, filter, slice_get}
use Rattle.std.proofs.lemmas.Bool.{or_right}
use Rattle.std.proofs.lemmas.List.{append-nil, get_or-map, length-map}
use Rattle.std.proofs.lemmas.List.Elements.{All-cons, filter_more}
use Rattle.std.proofs.lemmas.Option.{slice_get-get_or}
use Rattle.graph_meaning.specs.Heap.{Object, ids, is_live}
use Rattle.graph_meaning.specs.Reach.{has_id}
use Rattle.graph_meaning.proofs.HeapLemmas.{has_id-ids}
use Rattle.graph_meaning.proofs.Membership.{has_id-head}
use Rattle.object_table.specs.Placed.{PlacedTable, IsPlaced, id_in, cell_of}
use Rattle.path_cert.specs.Cells.{by_id}
use Rattle.path_cert.proofs.HeldObjects.{held-within}
use Rattle.object_table.proofs.ObjectsByCell.{cell_of-held}
use Rattle.path_cert.proofs.ByIds.{by_id-held}
use Rattle.verdict_list.specs.Cells.{cells_by_id}

module _ (p : PlacedTable) (placed : IsPlaced p) where
  abbrev at_id : ℕ → ℕ
  at_id id = unwrap_or (cell_of p id) 0

  at_id-held : (cell id : ℕ) → id_in p cell ≡ Some id → at_id id ≡ cell
  at_id-held cell id held = ap (λ o. unwrap_or o 0) (cell_of-held p placed cell id held)

  -- the cell that is given for a live object holds it
  pub holds-live : (id : ℕ) → IsTrue (is_live p.table id) → id_in p (at_id id) ≡ Some id
  holds-live id live =
      let there = placed.somewhere id live in ap (id_in p) (at_id-held there.0 id there.1) ∙ there.1

  held_all : (xs : List ℕ) → ((x : ℕ) → IsTrue (has_id xs x) → IsTrue (is_live p.table x)) → All (λ cell. IsSome (id_in p cell)) (map at_id xs)
  held_all [] live = λ k d within. absurd (omega arith)
  held_all (x ∷ xs) live =
      All-cons (λ cell. IsSome (id_in p cell)) (at_id x) (map at_id xs) (rw (holds-live x (live x (has_id-head xs x))) refl) (held_all xs (λ y at. live y (or_right (x == y) (has_id xs y) at)))

  live_ids : (x : ℕ) → IsTrue (has_id (ids p.table) x) → IsTrue (is_live p.table x)
  live_ids x at = sym (has_id-ids p.table x) ∙ at

  -- each of the cells holds an object
  pub cells-held : All (λ cell. IsSome (id_in p cell)) (cells_by_id p)
  cells-held = held_all (ids p.table) live_ids

  one_more : (b : Bool) (c x : ℕ) (cs xs : List ℕ) → id_in p c ≡ Some x → map (id_in p) cs ≡ map Some xs → map (id_in p) (cond b (c ∷ cs) cs) ≡ map Some (cond b (x ∷ xs) xs)
  one_more true c x cs xs held same = ap (λ o. o ∷ map (id_in p) cs) held ∙ ap (λ os. Some x ∷ os) same
  one_more false c x cs xs held same = same

  ids_all : (test : ℕ → Bool) (xs : List ℕ) → ((x : ℕ) → IsTrue (has_id xs x) → IsTrue (is_live p.table x)) → map (id_in p) (filter test (map at_id xs)) ≡ map Some (filter (by_id p test) xs)
  ids_all test [] live = refl
  ids_all test (x ∷ xs) live =
      let held = holds-live x (live x (has_id-head xs x)) in
      one_more (test (at_id x)) (at_id x) x (filter test (map at_id xs)) (filter (by_id p test) xs) held (ids_all test xs (λ y at. live y (or_right (x == y) (has_id xs y) at)))
      ∙ ap (λ b. map Some (cond b (x ∷ filter (by_id p test) xs) (filter (by_id p test) xs))) (sym (by_id-held p placed test (at_id x) x held))

  -- the cells that pass a test hold the objects that pass it, in order
  pub ids-filter : (test : ℕ → Bool) → map (id_in p) (filter test (cells_by_id p)) ≡ map Some (filter (by_id p test) (ids p.table))
  ids-filter test = ids_all test (ids p.table) live_ids

  -- the cell of the object that is this number among all
  pub nth-cell : (n cell : ℕ) → n < length p.table.objects → id_in p cell ≡ slice_get (ids p.table) n → get_or (cells_by_id p) n 0 ≡ cell
  nth-cell n cell within held =
      let count = length-map p.table.objects (λ (o : Object). o.id) in
      let there : slice_get (ids p.table) n ≡ Some (get_or (ids p.table) n 0) = slice_get-get_or (ids p.table) n 0 (omega (arith, count)) in
      get_or-map at_id (ids p.table) n 0 0 (omega (arith, count)) ∙ at_id-held cell (get_or (ids p.table) n 0) (held ∙ there)

  pub nth-held : (n cell : ℕ) → n < length p.table.objects → id_in p cell ≡ slice_get (ids p.table) n → cell < length p.cells
  nth-held n cell within held =
      let count = length-map p.table.objects (λ (o : Object). o.id) in
      let there : slice_get (ids p.table) n ≡ Some (get_or (ids p.table) n 0) = slice_get-get_or (ids p.table) n 0 (omega (arith, count)) in
      held-within p cell (get_or (ids p.table) n 0) (held ∙ there)

  pub count-cells : length (cells_by_id p) ≡ length p.table.objects
  count-cells = length-map (ids p.table) at_id ∙ length-map p.table.objects (λ (o : Object). o.id)

  -- one object more, if its cell passes a test
  cells-more : (test : ℕ → Bool) (n cell : ℕ) → n < length p.table.objects → id_in p cell ≡ slice_get (ids p.table) n →
      filter test (take (n + 1) (cells_by_id p)) ≡ filter test (take n (cells_by_id p)) ++ cond (test cell) (cell ∷ []) []
  cells-more test n cell within held =
      filter_more test (cells_by_id p) n 0 (omega (arith, within, count-cells))
      ∙ ap (λ x. filter test (take n (cells_by_id p)) ++ cond (test x) (x ∷ []) []) (nth-cell n cell within held)

  -- the cells that pass, where the next does
  pub passing-more : (test : ℕ → Bool) (n cell : ℕ) → n < length p.table.objects → id_in p cell ≡ slice_get (ids p.table) n → test cell ≡ true →
      filter test (take n (cells_by_id p)) ++ cell ∷ [] ≡ filter test (take (n + 1) (cells_by_id p))
  passing-more test n cell within held passes =
      ap (λ b. filter test (take n (cells_by_id p)) ++ cond b (cell ∷ []) []) (sym passes) ∙ sym (cells-more test n cell within held)

  -- and where it doesn't
  pub passing-same : (test : ℕ → Bool) (n cell : ℕ) → n < length p.table.objects → id_in p cell ≡ slice_get (ids p.table) n → test cell ≡ false →
      filter test (take n (cells_by_id p)) ≡ filter test (take (n + 1) (cells_by_id p))
  passing-same test n cell within held fails =
      sym (append-nil (filter test (take n (cells_by_id p)))) ∙ ap (λ b. filter test (take n (cells_by_id p)) ++ cond b (cell ∷ []) []) (sym fails)
      ∙ sym (cells-more test n cell within held)
