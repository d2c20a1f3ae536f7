-- The object in a cell: its id, the cell of an id, and its edges by its slots.
use Rattle.std.proofs.Common.{◌≡◌, ℕ, ◌<◌, true, false, cond, ⊎_elim, List, [], length, get_or, sym, refl, ap, ◌∙◌, subst, arith, eqb-true, eq-eqb, Option, None, Some, ltb}
use Rattle.std.specs.Prelude.{IsSome, unwrap_or}
use Rattle.std.specs.List.{position_or_len}
use Rattle.std.specs.Option.{is_some, option_and_then, option_map_or}
use Rattle.std.proofs.lemmas.Bool.{cases_Bool, false≢true, cases_lt, lt-ltb}
use Rattle.std.proofs.lemmas.List.{get_or_past}
use Rattle.std.proofs.lemmas.List.Sums.{position_or_len_is}
use Rattle.graph_meaning.specs.Heap.{Object, empty_slot, object_at, edge_of, edge_at, edges, edges_of}
use Rattle.graph_meaning.specs.Roles.{id_at}
use Rattle.object_table.specs.Edges.{AreEdgesAt}
use Rattle.object_table.specs.Placed.{PlacedTable, id_in, slots_in, slot_in, IsPlaced, cell_of, holds_id}

-- a cell that holds an object holds the one with the cell's id
pub held-id : (p : PlacedTable) (cell : ℕ) → IsSome (id_in p cell) → id_in p cell ≡ Some (id_at p.cells cell)
held-id p cell held = go (id_in p cell) held
  where
    go : (o : Option ℕ) → IsSome o → o ≡ Some (unwrap_or o 0)
    go None held = absurd (false≢true held)
    go (Some id) held = refl

pub id-held : (p : PlacedTable) (cell id : ℕ) → id_in p cell ≡ Some id → id_at p.cells cell ≡ id
id-held p cell id held = ap (λ o. unwrap_or o 0) held

-- a cell that holds an object is one of the table's
pub held-within : (p : PlacedTable) (cell id : ℕ) → id_in p cell ≡ Some id → cell < length p.cells
held-within p cell id held =
    ⊎_elim
    (λ less. less)
    (λ past. absurd (let none : None ≡ Some id = sym (get_or_past p.cells cell None past) ∙ held in cc))
    (cases_lt cell (length p.cells))

pub holds_id-true : (id : ℕ) (o : Option ℕ) → holds_id id o ≡ true → o ≡ Some id
holds_id-true id None e = absurd (false≢true e)
holds_id-true id (Some x) e = ap Some (eqb-true x id e)

-- the cell that holds an object is the one that is given for it
pub cell_of-held : (p : PlacedTable) → IsPlaced p → (cell id : ℕ) → id_in p cell ≡ Some id → cell_of p id ≡ Some cell
cell_of-held p placed cell id held =
    let within = held-within p cell id held in
    let before : (k : ℕ) → k < cell → holds_id id (get_or p.cells k None) ≡ false = λ k less.
    ⊎_elim
    (λ same. absurd (let e = placed.once k cell id (holds_id-true id (id_in p k) same) held in omega arith))
    (λ other. other)
    (cases_Bool (holds_id id (get_or p.cells k None))) in
    let here : holds_id id (get_or p.cells cell None) ≡ true = ap (holds_id id) held ∙ eq-eqb id id refl in
    let is : position_or_len (holds_id id) p.cells ≡ cell = position_or_len_is (holds_id id) p.cells cell None (omega arith) before (λ _. here) in
    ap (λ n. cond (ltb n (length p.cells)) (Some n) None) is ∙ ap (λ b. cond b (Some cell) None) (lt-ltb cell (length p.cells) within)

-- the edges of an object are those by the slots of its cell
pub edges-cell : (p : PlacedTable) (cell id : ℕ) → id_in p cell ≡ Some id → edges p.table id ≡ edges_of (slots_in p cell)
edges-cell p cell id held =
    go (object_at p.table.objects id) ∙ ap (λ o. edges_of (option_map_or (λ (x : Object). x.slots) (option_and_then (object_at p.table.objects) o) [])) (sym held)
  where
    go : (o : Option Object) → option_map_or (λ x. edges_of x.slots) o [] ≡ edges_of (option_map_or (λ x. x.slots) o [])
    go None = refl
    go (Some x) = refl

-- the edge by a slot of an object is that by the slot of its cell
pub edge_at-cell : (p : PlacedTable) (cell id slot : ℕ) → id_in p cell ≡ Some id → edge_at p.table id slot ≡ edge_of (slot_in p cell slot)
edge_at-cell p cell id slot held =
    go (object_at p.table.objects id) ∙ ap (λ o. edge_of (get_or (option_map_or (λ (x : Object). x.slots) (option_and_then (object_at p.table.objects) o) []) slot empty_slot)) (sym held)
  where
    go : (o : Option Object) → option_map_or (λ x. edge_of (get_or x.slots slot empty_slot)) o None ≡ edge_of (get_or (option_map_or (λ x. x.slots) o []) slot empty_slot)
    go None = refl
    go (Some x) = refl

-- what a slot leads to is held by the cell that the table answers
pub target-held : (p : PlacedTable) (target : ℕ) (edge : Option ℕ) → id_in p target ≡ edge → true ≡ is_some edge → (y : ℕ) × (id_in p target ≡ Some y) × (edge ≡ Some y)
target-held p target None leads some = absurd (false≢true (sym some))
target-held p target (Some y) leads some = (y, leads, refl)

pub no-edge : (edge : Option ℕ) → is_some edge ≡ false → edge ≡ None
no-edge None none = refl
no-edge (Some y) none = absurd (false≢true (sym none))

-- what an edge by cells leads to is what the slot leads to
module _ (p : PlacedTable) (cell : ℕ) (edges : List (Option ℕ)) (are : AreEdgesAt p cell edges) (slot : ℕ) (within : slot < length edges) where
  pub edge-within : slot < length (slots_in p cell)
  edge-within = subst (λ n. slot < n) are.count within

  module _ (o : Option ℕ) (is : get_or edges slot None ≡ o) where
    pub edge-leads : option_and_then (id_in p) o ≡ edge_of (slot_in p cell slot)
    edge-leads = ap (option_and_then (id_in p)) (sym is) ∙ are.leads slot within

    pub edge-in_a_cell : is_some o ≡ is_some (edge_of (slot_in p cell slot))
    edge-in_a_cell = ap is_some (sym is) ∙ are.in_a_cell slot within

  -- the cell that it leads to holds an object
  pub edge-held : (target : ℕ) → get_or edges slot None ≡ Some target → IsSome (id_in p target)
  edge-held target is = ap is_some (edge-leads (Some target) is) ∙ sym (edge-in_a_cell (Some target) is)

  -- the object that it leads to
  pub edge-target : (target : ℕ) → get_or edges slot None ≡ Some target → (y : ℕ) × (id_in p target ≡ Some y) × (edge_of (slot_in p cell slot) ≡ Some y)
  edge-target target is =
      target-held p target (edge_of (slot_in p cell slot)) (edge-leads (Some target) is) (edge-in_a_cell (Some target) is)
