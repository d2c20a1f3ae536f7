-- What is under owners, what is met and what an owner finds, by cells and by ids.
use Rattle.std.proofs.Common.{◌≡◌, ℕ, ◌<◌, suc, Bool, true, false, ◌||◌, List, [], ◌∷◌, length, map, IsTrue, Option, None, Some, ap, sym, refl, subst, ◌∙◌}
use Rattle.std.specs.Prelude.{unwrap_or}
use Rattle.std.specs.Option.{is_some, option_map, option_map_or}
use Rattle.assert_registry.specs.ByCell.{live_owners}
use Rattle.assert_registry.specs.Laws.{StandFor, SayOfHeap}
use Rattle.assert_registry.proofs.ByHeap.{roles_say_of_heap}
use Rattle.graph_meaning.specs.declared.roles.OwnerRole.{OwnerRole}
use Rattle.graph_meaning.specs.declared.roles.OwnerRole.TheVariants.{NotOwned, OwnerCell, OwnerGone}
use Rattle.graph_meaning.specs.Heap.{Heap, Table, ids, targets}
use Rattle.graph_meaning.specs.Reach.{has_id, distance, reached_nodes}
use Rattle.graph_meaning.specs.Assertions.{open_graph, object_graph, is_owner, is_ownee, is_border, is_owned, owner_ids, root_ids, under_owners, is_traced, is_met, finds, found_from}
use Rattle.graph_meaning.specs.Paths.{ways_from, way_ends}
use Rattle.graph_meaning.specs.Roles.{RoleTable, owner_in, id_at, has_owner}
use Rattle.graph_meaning.proofs.Distances.{is_some-distance}
use Rattle.graph_meaning.proofs.HeapLemmas.{has_id-ids}
use Rattle.graph_meaning.proofs.Tracing.{met_has_level, traced_is_reached}
use Rattle.graph_meaning.proofs.Ways.{ends-root_ways, ends-owner_ways}
use Rattle.object_table.specs.Placed.{PlacedTable, IsPlaced, id_in, cell_of}
use Rattle.path_cert.specs.Cells.{by_id}
use Rattle.path_cert.specs.Finds.{is_border_cell, finds_in}
use Rattle.path_cert.specs.Levels.{LevelTable, AreLevelsOf, search_of, level_in, open_graph_of, ends_of}
use Rattle.path_cert.specs.declared.start.Start.TheVariants.{Roots, Owners}
use Rattle.path_cert.proofs.ByIds.{by_id-held}
use Rattle.path_cert.proofs.HeldObjects.{id-held, held-within}
use Rattle.verdict_list.specs.Cells.{is_owned_cell}
use Rattle.verdict_list.specs.Ownership.{unowned_search}
use Rattle.verdict_list.specs.Settling.{flag_of}
use Rattle.verdict_list.proofs.SameShut.{reached-same, levels-same}

-- the ids that cells hold
ids_of : (f : ℕ → Option ℕ) (cells ids : List ℕ) → map f cells ≡ map Some ids → map (λ c. unwrap_or (f c) 0) cells ≡ ids
ids_of f [] [] same = refl
ids_of f [] (x ∷ ids) same = cc
ids_of f (c ∷ cells) [] same = cc
ids_of f (c ∷ cells) (x ∷ ids) same =
    let first : f c ≡ Some x = cc in
    let others : map f cells ≡ map Some ids = cc in
    ap (λ o. unwrap_or o 0 ∷ map (λ c. unwrap_or (f c) 0) cells) first ∙ ap (λ ys. x ∷ ys) (ids_of f cells ids others)

is_some-map : {X Y : Type 0} (f : X → Y) (o : Option X) → is_some (option_map f o) ≡ is_some o
is_some-map f None = refl
is_some-map f (Some x) = refl

-- a test that no cell passes
by_id-none : (p : PlacedTable) (test : ℕ → Bool) (x : ℕ) → ((cell : ℕ) → test cell ≡ false) → by_id p test x ≡ false
by_id-none p test x none = go (cell_of p x)
  where
    go : (o : Option ℕ) → option_map_or test o false ≡ false
    go None = refl
    go (Some cell) = none cell

-- The heap with this table, whose objects stand in these cells.
module _ (h : Heap) (cells : List (Option ℕ)) (r : RoleTable) (placed : IsPlaced (record { table = h.table; cells = cells })) (stand : StandFor (record { table = h.table; cells = cells }) r h) where
  abbrev p : PlacedTable
  p = record { table = h.table; cells = cells }

  abbrev t : Table
  t = h.table

  say : SayOfHeap h p r
  say = roles_say_of_heap h p r placed stand

  -- what is said of each live id by its cell
  by_cell : (test : ℕ → Bool) (by : ℕ → Bool) → ((cell id : ℕ) → id_in p cell ≡ Some id → test cell ≡ by id) → (x : ℕ) → IsTrue (has_id (ids t) x) → by_id p test x ≡ by x
  by_cell test by same x at =
      let there = placed.somewhere x (sym (has_id-ids t x) ∙ at) in
      by_id-held p placed test there.0 x there.1 ∙ same there.0 x there.1

  -- ---- under owners

  owner_cells : map (id_at cells) r.owners ≡ owner_ids h
  owner_cells = ids_of (id_in p) r.owners (live_owners t h.owners) stand.owners

  module _ (nothing : List Bool) (none : (cell : ℕ) → flag_of nothing cell ≡ false) (under : LevelTable) (levels : AreLevelsOf p (search_of p r Owners nothing) under) where
    -- what has a level from the owners is under them
    pub has_level-under : (cell id : ℕ) → id_in p cell ≡ Some id → is_some (level_in under cell) ≡ has_id (under_owners h) id
    unfolding under_owners
    has_level-under cell id held =
        let s = search_of p r Owners nothing in
        ap is_some (levels.levels cell id held)
        ∙ is_some-map suc (distance (open_graph_of p s) (ends_of s) id)
        ∙ is_some-distance (open_graph_of p s) (ends_of s) id
        ∙ ap (λ ys. has_id ys id) (reached-same t s.is_shut (λ x. false) (λ x at. by_id-none p (λ cell. flag_of nothing cell) x none) (ends_of s))
        ∙ ap (λ os. has_id (reached_nodes (object_graph t) (way_ends (ways_from t os))) id) owner_cells
        ∙ ap (λ ys. has_id (reached_nodes (object_graph t) ys) id) (ends-owner_ways h)

    pub owned-cell : (cell id : ℕ) → id_in p cell ≡ Some id → is_owned_cell r under cell ≡ is_owned h id
    owned-cell cell id held =
        ap (λ b. b || has_id r.owners cell) (has_level-under cell id held) ∙ ap (λ b. has_id (under_owners h) id || b) (say.owners cell id held)

    -- the levels from the roots, where what is owned is shut by its cell
    pub unowned-levels : (owned : List Bool) → ((cell : ℕ) → cell < length cells → flag_of owned cell ≡ is_owned_cell r under cell) →
        (l : LevelTable) → AreLevelsOf p (search_of p r Roots owned) l → AreLevelsOf p (unowned_search h) l
    unowned-levels owned flags l are =
        levels-same p (search_of p r Roots owned) (is_owned h) l
        (by_cell (λ cell. flag_of owned cell) (is_owned h) (λ cell id held. flags cell (held-within p cell id held) ∙ owned-cell cell id held)) are

  -- ---- traced

  -- what has a level from the owners or from the roots, with nothing shut, is traced
  pub has_level-traced : (nothing : List Bool) → ((cell : ℕ) → flag_of nothing cell ≡ false) → (under : LevelTable) →
      AreLevelsOf p (search_of p r Owners nothing) under → (rooted : LevelTable) → AreLevelsOf p (search_of p r Roots nothing) rooted →
      (cell id : ℕ) → id_in p cell ≡ Some id → (is_some (level_in under cell) || is_some (level_in rooted cell)) ≡ is_traced h id
  has_level-traced nothing none under levels rooted are cell id held =
      let s = search_of p r Roots nothing in
      let by_roots : is_some (level_in rooted cell) ≡ has_id (reached_nodes (object_graph t) (root_ids t)) id =
      ap is_some (are.levels cell id held)
      ∙ is_some-map suc (distance (open_graph_of p s) (ends_of s) id)
      ∙ is_some-distance (open_graph_of p s) (ends_of s) id
      ∙ ap (λ ys. has_id ys id) (reached-same t s.is_shut (λ x. false) (λ x at. by_id-none p (λ cell. flag_of nothing cell) x none) (ends_of s))
      ∙ ap (λ ys. has_id (reached_nodes (object_graph t) ys) id) (ends-root_ways t) in
      ap (λ b. b || is_some (level_in rooted cell)) (has_level-under nothing none under levels cell id held)
      ∙ ap (λ b. has_id (under_owners h) id || b) by_roots
      ∙ sym (traced_is_reached h id)

  -- ---- met

  -- what has a level from the roots through nothing that is owned is met
  pub has_level-met : (l : LevelTable) → AreLevelsOf p (unowned_search h) l → (cell id : ℕ) → id_in p cell ≡ Some id → is_some (level_in l cell) ≡ is_met h id
  has_level-met l levels cell id held =
      let s = unowned_search h in
      ap is_some (levels.levels cell id held)
      ∙ is_some-map suc (distance (open_graph_of p s) (ends_of s) id)
      ∙ ap (λ ys. is_some (distance (open_graph_of p s) ys id)) (ends-root_ways t)
      ∙ sym (met_has_level h id (placed.live cell id held))

  -- ---- found

  has_owner-ownee : (role : OwnerRole) (b : Bool) → ((role ≡ NotOwned) → b ≡ false) × (b ≡ false → role ≡ NotOwned) → has_owner role ≡ b
  has_owner-ownee NotOwned b same = sym (same.0 refl)
  has_owner-ownee (OwnerCell owner) true same = refl
  has_owner-ownee (OwnerCell owner) false same = let e : OwnerCell owner ≡ NotOwned = same.1 refl in cc
  has_owner-ownee (OwnerGone gone) true same = refl
  has_owner-ownee (OwnerGone gone) false same = let e : OwnerGone gone ≡ NotOwned = same.1 refl in cc

  border-cell : (cell id : ℕ) → id_in p cell ≡ Some id → is_border_cell r cell ≡ is_border h id
  border-cell cell id held =
      ap (λ b. b || has_owner (owner_in r cell)) (say.owners cell id held)
      ∙ ap (λ b. is_owner h id || b) (has_owner-ownee (owner_in r cell) (is_ownee h id) (say.ownees cell id held))

  -- the owner in one cell finds the object in another
  pub finds-cell : (owner ownee x y : ℕ) → id_in p owner ≡ Some x → id_in p ownee ≡ Some y → finds_in p r owner ownee ≡ finds h x y
  unfolding found_from
  finds-cell owner ownee x y held_owner held_ownee =
      ap (λ z. has_id (reached_nodes (open_graph t (by_id p (is_border_cell r))) (targets t z)) (id_at cells ownee)) (id-held p owner x held_owner)
      ∙ ap (λ z. has_id (reached_nodes (open_graph t (by_id p (is_border_cell r))) (targets t x)) z) (id-held p ownee y held_ownee)
      ∙ ap (λ ys. has_id ys y) (reached-same t (by_id p (is_border_cell r)) (is_border h) (by_cell (is_border_cell r) (is_border h) border-cell) (targets t x))

-- What is said by cells is what the heap says by ids.
pub record AgreeByIds (p : PlacedTable) (r : RoleTable) (h : Heap) : Type 0 where
  pub unowned : (nothing : List Bool) → ((cell : ℕ) → flag_of nothing cell ≡ false) → (under : LevelTable) →
      AreLevelsOf p (search_of p r Owners nothing) under → (owned : List Bool) →
      ((cell : ℕ) → cell < length p.cells → flag_of owned cell ≡ is_owned_cell r under cell) → (l : LevelTable) →
      AreLevelsOf p (search_of p r Roots owned) l → AreLevelsOf p (unowned_search h) l
  pub traced : (nothing : List Bool) → ((cell : ℕ) → flag_of nothing cell ≡ false) → (under : LevelTable) →
      AreLevelsOf p (search_of p r Owners nothing) under → (rooted : LevelTable) → AreLevelsOf p (search_of p r Roots nothing) rooted →
      (cell id : ℕ) → id_in p cell ≡ Some id → (is_some (level_in under cell) || is_some (level_in rooted cell)) ≡ is_traced h id
  pub met : (l : LevelTable) → AreLevelsOf p (unowned_search h) l → (cell id : ℕ) → id_in p cell ≡ Some id → is_some (level_in l cell) ≡ is_met h id
  pub finds : (owner ownee x y : ℕ) → id_in p owner ≡ Some x → id_in p ownee ≡ Some y → finds_in p r owner ownee ≡ finds h x y

agree_with : Heap → RoleTable → List (Option ℕ) → Table → Type 0
agree_with h r cells t =
    IsPlaced (record { table = t; cells = cells }) → StandFor (record { table = t; cells = cells }) r h → AgreeByIds (record { table = t; cells = cells }) r h

pub agree-by-ids : (p : PlacedTable) (r : RoleTable) (h : Heap) → IsPlaced p → StandFor p r h → AgreeByIds p r h
unfolding agree_with
agree-by-ids p r h placed stand =
    subst (agree_with h r p.cells) stand.table (λ placed_here stand_here. record {
      unowned = unowned-levels h p.cells r placed_here stand_here;
      traced = has_level-traced h p.cells r placed_here stand_here;
      met = has_level-met h p.cells r placed_here stand_here;
      finds = finds-cell h p.cells r placed_here stand_here;
    }) placed stand
