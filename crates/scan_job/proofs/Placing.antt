-- The graph of a table and its roles: cells that hold objects, and what slots lead to.
use Rattle.std.proofs.Common.{◌≡◌, ℕ, zero, suc, ◌+◌, ◌<◌, ◌≤◌, Bool, true, false, cond, ⊎_elim, List, [], ◌∷◌, ◌++◌, length, get_or, take, sym}
use Rattle.std.proofs.Common.{refl, ap, ◌∙◌, subst, arith, eqb, eqb-true, eq-eqb, Option, None, Some}
use Rattle.std.specs.Prelude.{IfSome, is_some, option_and_then, slice_get}
use Rattle.std.specs.List.{filter_map, cons_option, sum_by, range_with_len}
use Rattle.std.specs.Option.{option_map_or}
use Rattle.std.proofs.lemmas.Bool.{cases_lt, false≢true, or_cases, or_left, or_right}
use Rattle.std.proofs.lemmas.List.{take_more, get_or_past}
use Rattle.std.proofs.lemmas.List.Elements.{filter_map-append}
use Rattle.std.proofs.lemmas.List.Quantifiers.{position-Some}
use Rattle.std.proofs.lemmas.List.Sums.{sum_by-cons}
use Rattle.std.proofs.lemmas.Option.{option_and_then_some, slice_get-get_or}
use Rattle.heap_base.specs.declared.limits.TheConstants.{MOST_SLOTS}
use Rattle.graph_meaning.specs.declared.roles.OwnerRole.{OwnerRole}
use Rattle.graph_meaning.specs.declared.roles.OwnerRole.TheVariants.{NotOwned, OwnerCell, OwnerGone}
use Rattle.graph_meaning.specs.Heap.{Slot, Object, empty_slot, object_at, edge_of}
use Rattle.graph_meaning.specs.Reach.{has_id}
use Rattle.graph_meaning.specs.Roles.{RoleTable, owner_in, has_owner, AreRolesOf}
use Rattle.object_table.specs.Placed.{PlacedTable, id_in, slots_in, slot_in, IsPlaced, IsSound, cell_of, holds_id}
use Rattle.object_table.proofs.ObjectsByCell.{holds_id-true, cell_of-held}
use Rattle.scan_job.specs.Graphs.{IsWhole}
use Rattle.scan_job.specs.Cells.{target_of, targets_of, is_owned_by, graph_of}
use Rattle.scan_job.proofs.Numbers.{once-range, once-filter, in-range}
use Rattle.scan_job.proofs.Reaching.{at-filter, filter-at}

some-held : (o : Option ℕ) → is_some o ≡ true → (id : ℕ) × (o ≡ Some id)
some-held None e = absurd (false≢true e)
some-held (Some id) e = (id, refl)

module _ (p : PlacedTable) where
  -- a cell that holds an object is one of the table's
  pub held-below : (cell : ℕ) → is_some (id_in p cell) ≡ true → cell < length p.cells
  held-below cell held =
      ⊎_elim
      (λ less. less)
      (λ past. absurd (false≢true (sym (ap is_some (get_or_past p.cells cell None past)) ∙ held)))
      (cases_lt cell (length p.cells))

  -- the nodes of its graph are the cells that hold an object
  pub node-from_held : (r : RoleTable) (cell : ℕ) → is_some (id_in p cell) ≡ true → has_id (graph_of p r).nodes cell ≡ true
  node-from_held r cell held =
      at-filter (λ c. is_some (id_in p c)) (range_with_len 0 (length p.cells)) cell held (in-range (length p.cells) cell (held-below cell held))

  pub held-from_node : (r : RoleTable) (cell : ℕ) → has_id (graph_of p r).nodes cell ≡ true → is_some (id_in p cell) ≡ true
  held-from_node r cell at =
      (filter-at (λ c. is_some (id_in p c)) (range_with_len 0 (length p.cells)) cell at).0

  -- a cell that is given for an id holds it
  held-from_cell : (id cell : ℕ) → cell_of p id ≡ Some cell → is_some (id_in p cell) ≡ true
  held-from_cell id cell e =
      ap is_some (holds_id-true id (id_in p cell) (position-Some (holds_id id) p.cells cell None e).1)

  -- ---- what slots lead to

  leads : (xs : List Slot) (cell : ℕ) → has_id (targets_of p xs) cell ≡ true → (slot : Slot) × (target_of p slot ≡ Some cell)
  leads [] cell at = absurd (false≢true at)
  leads (s ∷ xs) cell at = go (target_of p s) (leads xs cell) refl at
    where
      go : (o : Option ℕ) → (has_id (targets_of p xs) cell ≡ true → (slot : Slot) × (target_of p slot ≡ Some cell)) → target_of p s ≡ o →
          has_id (cons_option o (targets_of p xs)) cell ≡ true → (slot : Slot) × (target_of p slot ≡ Some cell)
      go None rest is at = rest at
      go (Some x) rest is at =
          ⊎_elim
          (λ here. (s, is ∙ ap Some (eqb-true x cell here)))
          (λ later. rest later)
          (or_cases _ _ at)

  -- a slot's target holds an object
  target-held : (slot : Slot) (cell : ℕ) → target_of p slot ≡ Some cell → is_some (id_in p cell) ≡ true
  target-held slot cell e =
      option_and_then_some (cell_of p) (edge_of slot) cell e (λ id is there. held-from_cell id cell there)

  -- the cell that a slot leads to by its id is its target
  pub target-is : IsPlaced p → (slot : Slot) (o : Option ℕ) → option_and_then (id_in p) o ≡ edge_of slot → is_some o ≡ is_some (edge_of slot) → target_of p slot ≡ o
  target-is placed slot None e some = none (edge_of slot) some
    where
      none : (h : Option ℕ) → false ≡ is_some h → option_and_then (cell_of p) h ≡ None
      none None e = refl
      none (Some x) e = absurd (false≢true e)
  target-is placed slot (Some cell) e some =
      let held = some-held (edge_of slot) (sym some) in
      ap (option_and_then (cell_of p)) held.1 ∙ cell_of-held p placed cell held.0 (e ∙ held.1)

  pub length-targets : (xs : List Slot) → length (targets_of p xs) ≤ length xs
  length-targets [] = omega arith
  length-targets (s ∷ xs) = let r = length-targets xs in go (target_of p s) r
    where
      go : (o : Option ℕ) → length (targets_of p xs) ≤ length xs → length (cons_option o (targets_of p xs)) ≤ suc (length xs)
      go None r = omega arith
      go (Some x) r = omega arith

  -- one slot more
  pub targets-more : IsPlaced p → (xs : List Slot) (i : ℕ) (o : Option ℕ) → i < length xs →
      option_and_then (id_in p) o ≡ edge_of (get_or xs i empty_slot) → is_some o ≡ is_some (edge_of (get_or xs i empty_slot)) →
      targets_of p (take (i + 1) xs) ≡ targets_of p (take i xs) ++ cons_option o []
  targets-more placed xs i o within e some =
      ap (targets_of p) (take_more xs i empty_slot within)
      ∙ filter_map-append (target_of p) (take i xs) (get_or xs i empty_slot ∷ [])
      ∙ ap (λ (t : Option ℕ). targets_of p (take i xs) ++ cons_option t []) (target-is placed (get_or xs i empty_slot) o e some)

  -- ---- limits

  slots_le : (objects : List Object) (id : ℕ) → length (option_map_or (λ o. o.slots) (object_at objects id) []) ≤ sum_by (λ o. length o.slots) objects
  slots_le [] id = omega arith
  slots_le (o ∷ objects) id =
      subst (λ n. length (option_map_or (λ o. o.slots) (object_at (o ∷ objects) id) []) ≤ n) (sym (sum_by-cons (λ (o : Object). length o.slots) o objects)) (go (eqb o.id id) (slots_le objects id))
    where
      go : (b : Bool) → length (option_map_or (λ o. o.slots) (object_at objects id) []) ≤ sum_by (λ o. length o.slots) objects →
          length (option_map_or (λ o. o.slots) (cond b (Some o) (object_at objects id)) []) ≤ length o.slots + sum_by (λ o. length o.slots) objects
      go true r = omega arith
      go false r = omega arith

  pub few-slots : IsSound p.table → (cell : ℕ) → length (slots_in p cell) ≤ MOST_SLOTS
  few-slots sound cell = go (id_in p cell)
    where
      go : (o : Option ℕ) → length (option_map_or (λ o. o.slots) (option_and_then (object_at p.table.objects) o) []) ≤ MOST_SLOTS
      go None = omega arith
      go (Some id) = let l = sound.limits.slots in let m = sound.limits.possible.slots in let s = slots_le p.table.objects id in omega arith

-- ---- what is given at a place

pub has_id-filter_map : {X : Type 0} (h : X → Option ℕ) (xs : List X) (i : ℕ) (d : X) (y : ℕ) → i < length xs → h (get_or xs i d) ≡ Some y → has_id (filter_map h xs) y ≡ true
has_id-filter_map h [] i d y within is = absurd (omega arith)
has_id-filter_map h (x ∷ xs) zero d y within is =
    subst (λ o. has_id (cons_option o (filter_map h xs)) y ≡ true) (sym is) (or_left _ _ (eq-eqb y y refl))
has_id-filter_map h (x ∷ xs) (suc i) d y within is = go (h x) (has_id-filter_map h xs i d y (omega arith) is)
  where
    go : (o : Option ℕ) → has_id (filter_map h xs) y ≡ true → has_id (cons_option o (filter_map h xs)) y ≡ true
    go None rest = rest
    go (Some z) rest = or_right _ _ rest

-- the cell that an object's slot leads to is among its targets
pub target-there : (p : PlacedTable) (r : RoleTable) (cell slot target : ℕ) → IsPlaced p → slot < length (slots_in p cell) →
    option_and_then (id_in p) (Some target) ≡ edge_of (slot_in p cell slot) → true ≡ is_some (edge_of (slot_in p cell slot)) →
    has_id ((graph_of p r).targets cell) target ≡ true
target-there p r cell slot target placed within leads some =
    has_id-filter_map (target_of p) (slots_in p cell) slot empty_slot target within (target-is p placed (slot_in p cell slot) (Some target) leads some)

-- the cell that is given for a root is that of the object which it names
root-cell : (p : PlacedTable) (root cell : ℕ) → IsPlaced p → root < length p.table.roots →
    IfSome (slice_get p.table.roots root) (λ n. id_in p cell ≡ Some n.1) → cell_of p (get_or p.table.roots root ([], 0)).1 ≡ Some cell
root-cell p root cell placed within names =
    let held = subst (λ o. IfSome o (λ n. id_in p cell ≡ Some n.1)) (slice_get-get_or p.table.roots root ([], 0) within) names in
    cell_of-held p placed cell (get_or p.table.roots root ([], 0)).1 held

-- the cell that a root names is among the roots
pub root-there : (p : PlacedTable) (r : RoleTable) (root cell : ℕ) → IsPlaced p → root < length p.table.roots →
    IfSome (slice_get p.table.roots root) (λ n. id_in p cell ≡ Some n.1) → has_id (graph_of p r).roots cell ≡ true
root-there p r root cell placed within names =
    has_id-filter_map (λ n. cell_of p n.1) p.table.roots root ([], 0) cell within (root-cell p root cell placed within names)

-- the cells that the first roots name, and one root more
pub roots-more : (p : PlacedTable) (root cell : ℕ) → IsPlaced p → root < length p.table.roots →
    IfSome (slice_get p.table.roots root) (λ n. id_in p cell ≡ Some n.1) →
    filter_map (λ n. cell_of p n.1) (take (root + 1) p.table.roots) ≡ filter_map (λ n. cell_of p n.1) (take root p.table.roots) ++ cell ∷ []
roots-more p root cell placed within names =
    ap (filter_map (λ n. cell_of p n.1)) (take_more p.table.roots root ([], 0) within)
    ∙ filter_map-append (λ n. cell_of p n.1) (take root p.table.roots) (get_or p.table.roots root ([], 0) ∷ [])
    ∙ ap (λ (o : Option ℕ). filter_map (λ n. cell_of p n.1) (take root p.table.roots) ++ cons_option o []) (root-cell p root cell placed within names)

-- ---- the whole graph

owned-by : (owner : ℕ) (role : OwnerRole) → is_owned_by owner role ≡ true → role ≡ OwnerCell owner
owned-by owner NotOwned e = absurd (false≢true e)
owned-by owner (OwnerCell o) e = ap OwnerCell (eqb-true o owner e)
owned-by owner (OwnerGone id) e = absurd (false≢true e)

named-held : (p : PlacedTable) (roots : List (List ℕ × ℕ)) (cell : ℕ) → has_id (filter_map (λ root. cell_of p root.1) roots) cell ≡ true → is_some (id_in p cell) ≡ true
named-held p [] cell at = absurd (false≢true at)
named-held p (root ∷ roots) cell at = go (cell_of p root.1) (named-held p roots cell) refl at
  where
    go : (o : Option ℕ) → (has_id (filter_map (λ root. cell_of p root.1) roots) cell ≡ true → is_some (id_in p cell) ≡ true) →
        cell_of p root.1 ≡ o → has_id (cons_option o (filter_map (λ root. cell_of p root.1) roots)) cell ≡ true → is_some (id_in p cell) ≡ true
    go None rest is at = rest at
    go (Some x) rest is at =
        ⊎_elim
        (λ here. held-from_cell p root.1 cell (is ∙ ap Some (eqb-true x cell here)))
        (λ later. rest later)
        (or_cases _ _ at)

-- The graph of a table and of roles of it is whole.
pub is-whole : (p : PlacedTable) (r : RoleTable) → AreRolesOf p.cells (length p.table.kinds) r → IsWhole (graph_of p r)
is-whole p r roles = record {
  once = once-filter (λ cell. is_some (id_in p cell)) (range_with_len 0 (length p.cells)) (once-range 0 (length p.cells));
  edges = λ x y at. (let s = leads p (slots_in p x) y at in node-from_held p r y (target-held p s.0 y s.1));
  named = λ x at. node-from_held p r x (named-held p p.table.roots x at);
  owners = λ x at. (let c = (roles.are_owners x).0 at in node-from_held p r x (roles.by_others c.0 x c.1).1);
  owned = λ o e own. (let is = owned-by o (owner_in r e) own in ((roles.are_owners o).1 (e, is), ap has_owner is));
}
