-- Plain paths are canonical paths with nothing shut.
use Rattle.std.proofs.Common.{◌≡◌, ℕ, ◌≤◌, ◌*◌, false, List, [], ◌∷◌, length, map, filter, get_or, sym, refl, ap, subst, ◌∙◌, arith, Option, None, Some}
use Rattle.std.specs.Prelude.{unwrap_or, Result, Ok, Err, IfOk}
use Rattle.heap_base.specs.declared.errors.OutOfMemory.{OutOfMemory}
use Rattle.std.specs.Option.{IfSome, option_map, option_map_or, option_or, option_and_then}
use Rattle.heap_base.specs.declared.limits.TheConstants.{END_STEPS}
use Rattle.graph_meaning.specs.declared.paths.PathView.{PathView}
use Rattle.graph_meaning.specs.Assertions.{owner_ids, is_owner}
use Rattle.graph_meaning.specs.Heap.{Table, Heap, ids}
use Rattle.graph_meaning.specs.Paths.{Way, way_by_edge, owner_way, root_way, root_ways, ways_from, owner_ways, canonical_way, plain_way, holder_way, view_of}
use Rattle.graph_meaning.specs.Roles.{RoleTable, id_at}
use Rattle.object_table.specs.Placed.{PlacedTable, id_in, cell_of}
use Rattle.assert_registry.specs.Laws.{StandFor}
use Rattle.assert_registry.proofs.Marking.{get_or-replicate_same}
use Rattle.path_cert.specs.declared.start.Start.TheVariants.{Roots, Owners}
use Rattle.path_cert.specs.Cells.{by_id}
use Rattle.path_cert.specs.Levels.{search_of, way_in}
use Rattle.path_cert.proofs.ShownSteps.{view_of-shown, length-shown_from}
use Rattle.object_paths.specs.PlainPaths.{none_shut}

-- nothing is shut
none-by_id : (p : PlacedTable) (id : ℕ) → by_id p (λ cell. get_or (none_shut p) cell false) id ≡ false
none-by_id p id = go (cell_of p id)
  where
    go : (o : Option ℕ) → option_map_or (λ cell. get_or (none_shut p) cell false) o false ≡ false
    go None = refl
    go (Some cell) = get_or-replicate_same (length p.cells) cell false

-- the ids of the objects in the owners' cells are those of the owners
ids-of : (cells : List ℕ) (ids : List ℕ) (held : ℕ → Option ℕ) → map held cells ≡ map Some ids → map (λ cell. unwrap_or (held cell) 0) cells ≡ ids
ids-of [] [] held same = refl
ids-of [] (x ∷ ids) held same = absurd (cc)
ids-of (c ∷ cells) [] held same = absurd (cc)
ids-of (c ∷ cells) (x ∷ ids) held same =
    let first : held c ≡ Some x = cc in
    let rest : map held cells ≡ map Some ids = cc in
    (λ i. unwrap_or (first i) 0 ∷ ids-of cells ids held rest i)

module _ (p : PlacedTable) (r : RoleTable) (h : Heap) (stand : StandFor p r h) where
  owners-are : map (id_at p.cells) r.owners ≡ owner_ids h
  owners-are = ids-of r.owners (owner_ids h) (id_in p) (stand.owners ∙ ap (λ (t : Table). map Some (filter (λ x. is_owner h x) (ids t))) (sym stand.table))

  pub way-from_roots : (cell : ℕ) → way_in p (search_of p r Roots (none_shut p)) cell ≡ canonical_way h.table (λ x. false) (root_ways h.table) (id_at p.cells cell)
  way-from_roots cell =
      λ i. canonical_way (sym stand.table i) (λ x. none-by_id p x i) (root_ways (sym stand.table i)) (id_at p.cells cell)

  pub way-from_owners : (cell : ℕ) → way_in p (search_of p r Owners (none_shut p)) cell ≡ canonical_way h.table (λ x. false) (owner_ways h) (id_at p.cells cell)
  way-from_owners cell =
      λ i. canonical_way (sym stand.table i) (λ x. none-by_id p x i) (ways_from (sym stand.table i) (owners-are i)) (id_at p.cells cell)

  -- the plain path is the one or the other
  pub plain-way-is : (cell : ℕ) → option_or (way_in p (search_of p r Roots (none_shut p)) cell) (way_in p (search_of p r Owners (none_shut p)) cell) ≡ plain_way h (id_at p.cells cell)
  unfolding plain_way
  plain-way-is cell = λ i. option_or (way-from_roots cell i) (way-from_owners cell i)

  -- so is the path to a holder, and else its own start
  pub holder-way-is : (cell : ℕ) →
      option_map_or (λ w. w) (option_or (way_in p (search_of p r Roots (none_shut p)) cell) (way_in p (search_of p r Owners (none_shut p)) cell)) (owner_way p.table (id_at p.cells cell))
      ≡ holder_way h (id_at p.cells cell)
  holder-way-is cell =
      λ i. option_map_or (λ w. w) (plain-way-is cell i) (owner_way (sym stand.table i) (id_at p.cells cell))

  -- by an edge from the holder
  pub by-holder : (cell : ℕ) (e : ℕ × ℕ) →
      view_of (way_by_edge p.table
      (option_map_or (λ w. w) (option_or (way_in p (search_of p r Roots (none_shut p)) cell) (way_in p (search_of p r Owners (none_shut p)) cell))
      (owner_way p.table (id_at p.cells cell))) e)
      ≡ view_of (way_by_edge h.table (holder_way h (id_at p.cells cell)) e)
  by-holder cell e = λ i. view_of (way_by_edge (sym stand.table i) (holder-way-is cell i) e)

-- ---- what is shown of the first of two ways

pub first-shown : (a b : Option Way) (v : PathView) → Some v ≡ option_map view_of a → Some v ≡ option_map view_of (option_or a b)
first-shown None b v is = absurd (cc)
first-shown (Some w) b v is = is

pub second-shown : (a b : Option Way) (v : Option PathView) → None ≡ option_map view_of a → v ≡ option_map view_of b → v ≡ option_map view_of (option_or a b)
second-shown None b v none is = is
second-shown (Some w) b v none is = absurd (cc)

-- ---- and of a step more

module _ (t : Table) (edge : Option ℕ) (slot id : ℕ) (leads : edge ≡ Some id) where
  -- the way on by the slot
  abbrev pub on : Way → Option Way
  on w = option_map (λ y. way_by_edge t w (slot, y)) edge

  on-is : (w : Way) → on w ≡ Some (way_by_edge t w (slot, id))
  on-is w = ap (option_map (λ y. way_by_edge t w (slot, y))) leads

  same_Some : {X : Type 0} {x y : X} → Some x ≡ Some y → x ≡ y
  same_Some e = cc

  pub by-first : (a b : Option Way) (start : Way) (v : PathView) → Some v ≡ option_map view_of (option_and_then on a) →
      v ≡ view_of (way_by_edge t (option_map_or (λ w. w) (option_or a b) start) (slot, id))
  by-first None b start v is = absurd (cc)
  by-first (Some w) b start v is = same_Some (is ∙ ap (option_map view_of) (on-is w))

  pub no-first : (a : Option Way) → None ≡ option_map view_of (option_and_then on a) → a ≡ None
  no-first None none = refl
  no-first (Some w) none = absurd (let e : None ≡ Some (view_of (way_by_edge t w (slot, id))) = none ∙ ap (option_map view_of) (on-is w) in cc)

  pub by-second : (a b : Option Way) (start : Way) (v : PathView) → a ≡ None → Some v ≡ option_map view_of (option_and_then on b) →
      v ≡ view_of (way_by_edge t (option_map_or (λ w. w) (option_or a b) start) (slot, id))
  by-second None None start v none is = absurd (cc)
  by-second None (Some w) start v none is = same_Some (is ∙ ap (option_map view_of) (on-is w))
  by-second (Some w) b start v none is = absurd (cc)

  pub by-start : (a b : Option Way) (start : Way) (v : PathView) → a ≡ None → b ≡ None → Some v ≡ option_map view_of (on start) →
      v ≡ view_of (way_by_edge t (option_map_or (λ w. w) (option_or a b) start) (slot, id))
  by-start None None start v none no_other is = same_Some (is ∙ ap (option_map view_of) (on-is start))
  by-start None (Some w) start v none no_other is = absurd (cc)
  by-start (Some w) b start v none no_other is = absurd (cc)

-- at most so many steps are shown
pub view_of-few : (w : Way) → length (view_of w).steps ≤ 2 * END_STEPS
view_of-few w =
    subst (λ (v : PathView). length v.steps ≤ 2 * END_STEPS) (sym (view_of-shown w)) (length-shown_from (length w.steps) 0 w.steps (omega arith))

-- what is shown of a way has at most so many steps
pub few-shown : (way : Option Way) (result : Result PathView OutOfMemory) → IfOk result (λ v. Some v ≡ option_map view_of way) → IfOk result (λ v. length v.steps ≤ 2 * END_STEPS)
few-shown way (Err e) shown = shown
few-shown None (Ok v) shown = absurd (cc)
few-shown (Some w) (Ok v) shown =
    let same : v ≡ view_of w = cc in subst (λ (u : PathView). length u.steps ≤ 2 * END_STEPS) (sym same) (view_of-few w)

-- the same of a root
pub few-root : (t : Table) (root : Option (List ℕ × ℕ)) (id : ℕ) → option_map (λ r. r.1) root ≡ Some id →
    (result : Result PathView OutOfMemory) → IfOk result (λ v. IfSome root (λ r. v ≡ view_of (root_way t r))) →
    IfOk result (λ v. length v.steps ≤ 2 * END_STEPS)
few-root t None id named result shown = absurd (cc)
few-root t (Some r) id named (Err e) shown = shown
few-root t (Some r) id named (Ok v) shown =
    subst (λ (u : PathView). length u.steps ≤ 2 * END_STEPS) (sym shown) (view_of-few (root_way t r))
